-- What is gathered, one entry after another.
use Rattle.std.proofs.Common.{◌≡◌, ℕ, Bool, true, false, List, [], ◌∷◌, ◌++◌, map, refl, sym, ap, ◌∙◌, subst, Option}
use Rattle.std.proofs.Common.{None, Some}
use Rattle.std.specs.Prelude.{cond}
use Rattle.std.specs.Option.{option_or}
use Rattle.std.specs.List.{find}
use Rattle.std.proofs.lemmas.List.{map-append}
use Rattle.std.proofs.lemmas.List.Elements.{filter-append}
use Rattle.std.proofs.lemmas.List.Folds.{find-append}
use Rattle.po_text.specs.Entries as po
use Rattle.po_text.specs.Outcome as outcome
use Rattle.po_text.specs.Outcome.{IsReadable, body}
use Rattle.po_text.specs.Progress.{HasRead, GoesOn}
use Rattle.po_text.specs.declared.reader.EntryReader.{EntryReader}
use Rattle.po_checks.specs.Found.{FirstLine, HasFound, LooksAt}
use Rattle.po_checks.specs.Kept.{is_header, is_kept, kept_entries, kept_header}
use Rattle.po_checks.specs.declared.findings.Findings.{Findings}
use Rattle.po_checks.proofs.Checking.{kept_skip, kept_more}
use Rattle.po_checks.proofs.OwnHeader.{header_more}
use Rattle.dependent_po.specs.Counts.{standing_of, Standing}
use Rattle.dependent_po.specs.Formats.{HasOtherArguments}
use Rattle.dependent_po.specs.EntryGathering.{AddsHeader, AddsKept, AreGathered, Gathers, HasGathered, Options}
use Rattle.po_checks.specs.Headers.{IsHeaderOf, own_header}
use Rattle.po_checks.specs.declared.header.Header.{Header}
use Rattle.dependent_po.specs.declared.gathered.Gathered.{Gathered}

-- ---- the header

either_more : (own header : Option po.Entry) (old new : Option Header) → IsHeaderOf header old
    → (old ≡ None → IsHeaderOf own new) → ((h : Header) → old ≡ Some h → new ≡ old)
    → IsHeaderOf (option_or header own) new
either_more own None None new is none some = none refl
either_more own (Some e) None new is none some = absurd (cc is)
either_more own None (Some h) new is none some = absurd (cc is)
either_more own (Some e) (Some h) new is none some = rw (some h refl) is

-- the header was found before, or the entry may be it
pub header_either : (o : Options) (e : po.Entry) (old new : Option Header)
    → (old ≡ None → IsHeaderOf (own_header o e) new) → ((h : Header) → old ≡ Some h → new ≡ old)
    → (es : List po.Entry) → IsHeaderOf (kept_header o es) old → IsHeaderOf (kept_header o (es ++ e ∷ [])) new
header_either o e old new none some es is = subst (λ (h : Option po.Entry). IsHeaderOf h new) (sym (header_more o es e))
    (either_more (own_header o e) (kept_header o es) old new is none some)

-- ---- one more entry

-- an entry that isn't kept
pub skipped : (o : Options) (e : po.Entry) (old mid new : Gathered) (looked : Findings) (s : Standing) → is_kept o e
    ≡ false → LooksAt o e old.findings looked → s ≡ standing_of e → mid.findings ≡ looked → mid.standings.items
    ≡ old.standings.items ++ s ∷ [] → mid.messages ≡ old.messages → mid.mismatch ≡ old.mismatch → mid.header
    ≡ old.header → AddsHeader o e mid new → Gathers o e old new
skipped o e old mid new looked s lacks looks s_is found pushed messages mismatch header adds es g =
    let ks : kept_entries o (es ++ e ∷ []) ≡ kept_entries o es = kept_skip o es e lacks in
    record {
      messages = subst (AreGathered (kept_entries o (es ++ e ∷ []))) (sym (adds.messages ∙ messages))
          (subst (λ (xs : List po.Entry). AreGathered xs old.messages) (sym ks) g.messages);
      findings = subst (HasFound o (es ++ e ∷ [])) (sym (adds.findings ∙ found)) (looks es g.findings);
      mismatch = λ checked. subst (FirstLine HasOtherArguments (kept_entries o (es ++ e ∷ [])))
          (sym (adds.mismatch ∙ mismatch))
          (subst (λ (xs : List po.Entry). FirstLine HasOtherArguments xs old.mismatch) (sym ks) (g.mismatch checked));
      standings = ap (λ v. v.items) adds.standings ∙ pushed
          ∙ ap (λ (ss : List Standing). ss ++ s ∷ []) g.standings
          ∙ ap (λ (x : Standing). map standing_of es ++ x ∷ []) s_is ∙ sym (map-append standing_of es (e ∷ []));
      header = adds.header es (subst (IsHeaderOf (kept_header o es)) (sym header) g.header);
    }

-- an entry that is
pub added : (o : Options) (e : po.Entry) (old mid headed new : Gathered) (looked : Findings) (s : Standing)
    → is_kept o e ≡ true → LooksAt o e old.findings looked → s ≡ standing_of e → mid.findings ≡ looked
    → mid.standings.items ≡ old.standings.items ++ s ∷ [] → mid.messages ≡ old.messages → mid.mismatch ≡ old.mismatch
    → mid.header ≡ old.header → AddsHeader o e mid headed → AddsKept o e headed new → Gathers o e old new
added o e old mid headed new looked s keeps looks s_is found pushed messages mismatch header adds kept_adds es g =
    let ks : kept_entries o (es ++ e ∷ []) ≡ kept_entries o es ++ e ∷ [] = kept_more o es e keeps in
    record {
      messages = subst (λ (xs : List po.Entry). AreGathered xs new.messages) (sym ks)
          (kept_adds.messages (kept_entries o es)
          (subst (AreGathered (kept_entries o es)) (sym (adds.messages ∙ messages)) g.messages));
      findings = subst (HasFound o (es ++ e ∷ [])) (sym (kept_adds.findings ∙ adds.findings ∙ found))
          (looks es g.findings);
      mismatch = λ checked. subst (λ (xs : List po.Entry). FirstLine HasOtherArguments xs new.mismatch) (sym ks)
          (kept_adds.mismatch checked (kept_entries o es) (subst (FirstLine HasOtherArguments (kept_entries o es))
          (sym (adds.mismatch ∙ mismatch)) (g.mismatch checked)));
      standings = ap (λ v. v.items) (kept_adds.standings ∙ adds.standings) ∙ pushed
          ∙ ap (λ (ss : List Standing). ss ++ s ∷ []) g.standings
          ∙ ap (λ (x : Standing). map standing_of es ++ x ∷ []) s_is ∙ sym (map-append standing_of es (e ∷ []));
      header = subst (IsHeaderOf (kept_header o (es ++ e ∷ []))) (sym kept_adds.header)
          (adds.header es (subst (IsHeaderOf (kept_header o es)) (sym header) g.header));
    }

-- ---- the text

-- these entries were read, and this was gathered of them
pub record Reads (text : List ℕ) (o : Options) (reader : EntryReader) (g : Gathered) : Type 0 where
  pub entries : List po.Entry
  pub read : HasRead (body text) entries reader
  pub has : HasGathered o entries g

pub reads_more : (text : List ℕ) (o : Options) (reader next : EntryReader) (old new : Gathered) (e : po.Entry)
    → (r : Reads text o reader old) → GoesOn true (body text) r.entries e next → Gathers o e old new
    → Reads text o next new
reads_more text o reader next old new e r goes gathers = record {
  entries = r.entries ++ (e ∷ []);
  read = goes.1;
  has = gathers r.entries r.has;
}

pub reads_all : (text : List ℕ) (o : Options) (reader next : EntryReader) (g : Gathered) (e : po.Entry)
    → IsReadable text → (r : Reads text o reader g) → GoesOn false (body text) r.entries e next
    → (entries : List po.Entry) × outcome.Gives text entries × HasGathered o entries g
reads_all text o reader next g e readable r ends =
    (r.entries, record { readable = readable; reads = ends.0 }, r.has)
