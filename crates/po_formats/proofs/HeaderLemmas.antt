-- The kept header, one entry after another, and its rule.
use Rattle.std.proofs.Common.{◌≡◌, ℕ, Bool, true, false, List, [], ◌∷◌, ◌++◌, refl, sym, ap, ◌∙◌, subst, Option, None}
use Rattle.std.proofs.Common.{Some}
use Rattle.std.specs.Prelude.{cond, ◌&&◌, slice_get, string_bytes}
use Rattle.std.specs.Option.{option_map, option_or}
use Rattle.std.specs.List.{find}
use Rattle.std.proofs.lemmas.List.Elements.{filter-append}
use Rattle.std.proofs.lemmas.List.Folds.{find-append}
use Rattle.po_text.specs.Entries as po
use Rattle.po_text.specs.Outcome as outcome
use Rattle.po_text.specs.Outcome.{IsReadable, body}
use Rattle.po_text.specs.Progress.{HasRead, GoesOn}
use Rattle.po_text.specs.declared.reader.EntryReader.{EntryReader}
use Rattle.po_header.specs.Rule.{Rule, HasRuleIn}
use Rattle.message.specs.Message.{first_form}
use Rattle.po_checks.specs.Kept.{is_header, is_kept, kept_entries, kept_header}
use Rattle.po_checks.specs.declared.fault.LoadFault.{LoadFault}
use Rattle.po_checks.specs.Headers.{header_texts, IsHeaderOf, own_header, stored_texts}
use Rattle.po_checks.specs.declared.header.Header.{Header}
use Rattle.po_checks.proofs.OwnHeader.{header_more}
use Rattle.po_formats.specs.HeaderViews.{IsForeignBy, IsRuleBy}
use Rattle.po_formats.specs.PlainFaults.{IsAccepted, IsForeignAt, Options, Charset}

-- ---- one entry after another

-- these entries were read, and this is their kept header
pub record Finds (text : List ℕ) (o : Options) (reader : EntryReader) (found : Option Header) : Type 0 where
  pub entries : List po.Entry
  pub read : HasRead (body text) entries reader
  pub header_is : IsHeaderOf (kept_header o entries) found

pub finds_none : (text : List ℕ) (o : Options) (reader : EntryReader) (found : Option Header)
    → HasRead (body text) [] reader → found ≡ None → Finds text o reader found
finds_none text o reader found read none = record { entries = []; read = read; header_is = rw none refl }

either_more : (own : Option po.Entry) (found next : Option Header) (header : Option po.Entry)
    → IsHeaderOf header found → (found ≡ None → stored_texts next ≡ header_texts own)
    → ((h : Header) → found ≡ Some h → next ≡ found) → IsHeaderOf (option_or header own) next
either_more own None next None is none some = none refl
either_more own None next (Some e) is none some = absurd (cc is)
either_more own (Some h) next None is none some = absurd (cc is)
either_more own (Some h) next (Some e) is none some = rw (some h refl) is

pub finds_more : (text : List ℕ) (o : Options) (reader later : EntryReader) (found next : Option Header)
    (e : po.Entry) → (c : Finds text o reader found) → GoesOn true (body text) c.entries e later
    → (found ≡ None → stored_texts next ≡ header_texts (own_header o e))
    → ((h : Header) → found ≡ Some h → next ≡ found) → Finds text o later next
finds_more text o reader later found next e c goes none some = record {
  entries = c.entries ++ (e ∷ []);
  read = goes.1;
  header_is = subst (λ (h : Option po.Entry). IsHeaderOf h next) (sym (header_more o c.entries e))
      (either_more (own_header o e) found next (kept_header o c.entries) c.header_is none some);
}

pub finds_all : (text : List ℕ) (o : Options) (reader later : EntryReader) (found : Option Header) (e : po.Entry)
    → IsReadable text → (c : Finds text o reader found) → GoesOn false (body text) c.entries e later
    → (entries : List po.Entry) × outcome.Gives text entries × IsHeaderOf (kept_header o entries) found
finds_all text o reader later found e readable c ends =
    (c.entries, record { readable = readable; reads = ends.0 }, c.header_is)

-- the form with the index 0 is the first one
pub form_is_first : (forms : List (List ℕ)) (form : List ℕ) → slice_get forms 0 ≡ Some form → first_form forms ≡ form
form_is_first [] form is = absurd (cc is)
form_is_first (f ∷ forms) form is = cc is

pub stored_own : (o : Options) (e : po.Entry) (h : Header) → (is_kept o e && is_header e) ≡ true
    → string_bytes h.text ≡ first_form e.forms → h.line ≡ e.line
    → stored_texts (Some h) ≡ header_texts (own_header o e)
stored_own o e h own text line = rw (own, text, line) refl

pub stored_none : (o : Options) (e : po.Entry) → (is_kept o e && is_header e) ≡ false
    → stored_texts None ≡ header_texts (own_header o e)
stored_none o e own = rw own refl

-- ---- the rule

pair_of : (x y : List ℕ × ℕ) → Some x ≡ Some y → x ≡ y
pair_of x y e = cc e

pub rule_holds : (header : Option po.Entry) (stored : Option Header) (rule : Rule) → IsHeaderOf header stored
    → IsRuleBy stored rule
    → IsAccepted header × HasRuleIn (option_map (λ (e : po.Entry). first_form e.forms) header) rule
rule_holds None None rule is by = (tt, by)
rule_holds None (Some h) rule is by = absurd (cc is)
rule_holds (Some e) None rule is by = absurd (cc is)
rule_holds (Some e) (Some h) rule is (accepted, has) =
    let text : string_bytes h.text ≡ first_form e.forms
    = ap (λ (x : List ℕ × ℕ). x.0) (pair_of (string_bytes h.text, h.line) (first_form e.forms, e.line) is) in (
      record { accepted = λ name names. (rw text at accepted).accepted name names },
      rw text at has,
    )

pub foreign_holds : (o : Options) (entries : List po.Entry) (stored : Option Header) (fault : LoadFault)
    → IsHeaderOf (kept_header o entries) stored → IsForeignBy stored fault
    → (fault.kind ≡ Charset) × IsForeignAt o entries fault.line
foreign_holds o entries stored fault is foreign = go_foreign (kept_header o entries) refl stored is foreign
  where
    go_foreign : (header : Option po.Entry) → kept_header o entries ≡ header → (stored : Option Header)
        → IsHeaderOf header stored → IsForeignBy stored fault
        → (fault.kind ≡ Charset) × IsForeignAt o entries fault.line
    go_foreign header at None is foreign = absurd foreign
    go_foreign None at (Some h) is foreign = absurd (cc is)
    go_foreign (Some e) at (Some h) is (refused, fault_is) =
        let pair = pair_of (string_bytes h.text, h.line) (first_form e.forms, e.line) is in
        let text : string_bytes h.text ≡ first_form e.forms = ap (λ (x : List ℕ × ℕ). x.0) pair in
        let line : h.line ≡ e.line = ap (λ (x : List ℕ × ℕ). x.1) pair in (
          ap (λ (f : LoadFault). f.kind) fault_is,
          record {
            header = e;
            is = at;
            foreign = rw text at refused;
            line_is = ap (λ (f : LoadFault). f.line) fault_is ∙ line;
          },
        )
