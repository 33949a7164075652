-- The entry that is checked is that of the text.
use Rattle.std.proofs.Common.{◌≡◌, Bool, List, refl, subst}
use Rattle.std.specs.Prelude.{Result, Ok, Err, OnOk, map, option_map}
use Rattle.po_text.specs.Entries as po
use Rattle.format_checks.specs.declared.entry.Entry as code_entry
use Rattle.format_checks.specs.FormatFaults.{AddsFaults, all_questions}
use Rattle.format_checks.specs.FormatViews.{entry_view}
use Rattle.po_formats.specs.EntryFaults.{checked_entry, Fault, Entry}

-- what was given to the check is the entry
pub record IsGiven (e : po.Entry) (given : code_entry.Entry) : Type 0 where
  pub line : given.line ≡ e.form_line
  pub flags : given.flags ≡ e.formats
  pub id : given.id.now ≡ e.id
  pub plural : option_map (λ text. text.now) given.plural ≡ e.plural
  pub forms : map (λ form. form.now) given.forms.now ≡ e.forms

same_entry : (e : po.Entry) (given : code_entry.Entry) → IsGiven e given → entry_view given ≡ checked_entry e
same_entry e given is = rw (is.line, is.flags, is.id, is.plural, is.forms) refl

pub entry_added : {X E : Type 0} (r : Result X E) (e : po.Entry) (given : code_entry.Entry) (often : List Bool)
    (old new : List Fault) → IsGiven e given
    → OnOk r (AddsFaults given.line (all_questions (entry_view given) often) old new)
    → OnOk r (AddsFaults e.form_line (all_questions (checked_entry e) often) old new)
entry_added (Ok x) e given often old new is h =
    subst (λ (checked : Entry). AddsFaults checked.line (all_questions checked often) old new) (same_entry e given is) h
entry_added (Err fault) e given often old new is h = tt
