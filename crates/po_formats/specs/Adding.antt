-- Private: the faults of one more entry.
use Rattle.std.specs.Prelude.{◌≡◌, Bool, true, false, List}
use Rattle.po_text.specs.Entries as po
pub use Rattle.format_checks.specs.FormatFaults.{AddsFaults, all_questions}
pub use Rattle.po_formats.specs.EntryFaults.{checked_entry, Fault}

-- the faults of the entry were added to a list if it is kept; if not, the list stayed the same
abbrev pub AddsIf : Bool → List Bool → po.Entry → List Fault → List Fault → Type 0
AddsIf true often e old new = AddsFaults e.form_line (all_questions (checked_entry e) often) old new
AddsIf false often e old new = new ≡ old
