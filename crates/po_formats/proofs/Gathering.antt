-- The faults of entries, one entry after another, and faults in reading them.
use Rattle.std.proofs.Common.{◌≡◌, ℕ, Bool, true, false, List, [], ◌∷◌, ◌++◌, refl, sym, ap, ◌∙◌, append_assoc, subst}
use Rattle.std.proofs.Common.{inl, inr}
use Rattle.std.specs.Prelude.{◌⊎◌}
use Rattle.std.proofs.lemmas.List.{append-nil}
use Rattle.po_text.specs.Entries as po
use Rattle.po_text.specs.Outcome as outcome
use Rattle.po_text.specs.Outcome.{IsReadable, body}
use Rattle.po_text.specs.Progress.{HasRead, GoesOn, IsMemoryOrFaulty}
use Rattle.po_text.specs.declared.fault.PoFault.{PoFault}
use Rattle.po_text.specs.declared.reader.EntryReader.{EntryReader}
use Rattle.po_text.proofs.Outcomes.{faulty_refuses}
use Rattle.po_checks.specs.Kept.{is_kept, kept_entries}
use Rattle.po_checks.specs.Refusal.{kind_of, out_of_memory}
use Rattle.po_checks.specs.declared.options.Options.{Options}
use Rattle.po_checks.specs.declared.fault.LoadFault.{LoadFault}
use Rattle.po_checks.proofs.Checking.{kept_skip, kept_more}
use Rattle.po_formats.specs.Adding.{AddsIf, AddsFaults, all_questions, Fault}
use Rattle.po_formats.specs.EntryFaults.{AreAllFaults, checked_entry}
use Rattle.po_formats.specs.PlainFaults.{RefusesText}

-- ---- faults in reading

abbrev pub load_fault : PoFault → LoadFault
load_fault fault = record { kind = kind_of fault.kind; line = fault.line }

pub unread : (text : List ℕ) (fault : PoFault) → IsReadable text → IsMemoryOrFaulty (body text) fault
    → (load_fault fault ≡ out_of_memory) ⊎ RefusesText text (kind_of fault.kind) fault.line
unread text fault readable (inl e) = inl (ap load_fault e)
unread text fault readable (inr f) =
    inr (fault.kind, refl, faulty_refuses text fault.kind fault.line readable f)

-- ---- one entry more

all_more : (often : List Bool) (es : List po.Entry) (e : po.Entry) (old new : List Fault) → AreAllFaults often es old
    → AddsFaults e.form_line (all_questions (checked_entry e) often) old new
    → AreAllFaults often (es ++ (e ∷ [])) new
all_more often [] e old new none (found, is, faults) =
    (found, [], faults, refl, is ∙ ap (λ (f : List Fault). f ++ found) none ∙ sym (append-nil found))
all_more often (x ∷ es) e old new (first, rest, its, more, cut) (found, is, faults) = (
  first,
  rest ++ found,
  its,
  all_more often es e rest (rest ++ found) more (found, refl, faults),
  is ∙ ap (λ (f : List Fault). f ++ found) cut ∙ append_assoc first rest found,
)

-- these entries were read, and these are the faults of the kept ones
pub record Gathers (text : List ℕ) (o : Options) (often : List Bool) (reader : EntryReader) (faults : List Fault) :
    Type 0 where
  pub entries : List po.Entry
  pub read : HasRead (body text) entries reader
  pub faults_are : AreAllFaults often (kept_entries o entries) faults

pub gathers_none : (text : List ℕ) (o : Options) (often : List Bool) (reader : EntryReader) (faults : List Fault)
    → HasRead (body text) [] reader → faults ≡ [] → Gathers text o often reader faults
gathers_none text o often reader faults read none = record { entries = []; read = read; faults_are = none }

gathered : (often : List Bool) (o : Options) (es : List po.Entry) (e : po.Entry) (faults grown : List Fault)
    (keeps : Bool) → is_kept o e ≡ keeps → AreAllFaults often (kept_entries o es) faults
    → AddsIf keeps often e faults grown
    → AreAllFaults often (kept_entries o (es ++ (e ∷ []))) grown
gathered often o es e faults grown true k are adds =
    subst (λ (ks : List po.Entry). AreAllFaults often ks grown) (sym (kept_more o es e k))
    (all_more often (kept_entries o es) e faults grown are adds)
gathered often o es e faults grown false k are adds =
    subst (λ (ks : List po.Entry). AreAllFaults often ks grown) (sym (kept_skip o es e k))
    (subst (λ (f : List Fault). AreAllFaults often (kept_entries o es) f) (sym adds) are)

pub gathers_more : (text : List ℕ) (o : Options) (often : List Bool) (reader next : EntryReader)
    (faults grown : List Fault) (e : po.Entry) → (c : Gathers text o often reader faults)
    → GoesOn true (body text) c.entries e next → AddsIf (is_kept o e) often e faults grown
    → Gathers text o often next grown
gathers_more text o often reader next faults grown e c goes adds = record {
  entries = c.entries ++ (e ∷ []);
  read = goes.1;
  faults_are = gathered often o c.entries e faults grown (is_kept o e) refl c.faults_are adds;
}

pub gathers_all : (text : List ℕ) (o : Options) (often : List Bool) (reader next : EntryReader)
    (faults : List Fault) (e : po.Entry) → IsReadable text → (c : Gathers text o often reader faults)
    → GoesOn false (body text) c.entries e next
    → (entries : List po.Entry) × outcome.Gives text entries × AreAllFaults often (kept_entries o entries) faults
gathers_all text o often reader next faults e readable c ends =
    (c.entries, record { readable = readable; reads = ends.0 }, c.faults_are)
