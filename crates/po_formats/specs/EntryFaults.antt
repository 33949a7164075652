-- What is wrong with the formats of the entries of a PO text (GNU gettext manual, "PO Files").
use Rattle.std.specs.Prelude.{◌≡◌, Bool, List, [], ◌∷◌, ◌++◌}
use Rattle.std.specs.List.{AllByRecursion}
use Rattle.po_text.specs.Entries as po
pub use Rattle.format_checks.specs.FlaggedEntries.{Entry}
pub use Rattle.format_checks.specs.FormatFaults.{AreFaults, IsAccepted, all_questions}
pub use Rattle.format_checks.specs.declared.Fault.{Fault}

-- the entry as it is checked; a fault is on the line of the first `msgstr`
abbrev pub checked_entry : po.Entry → Entry
checked_entry e = record { line = e.form_line; flags = e.formats; id = e.id; plural = e.plural; forms = e.forms }

-- these are the faults of one entry
abbrev pub AreItsFaults : List Bool → po.Entry → List Fault → Type 0
AreItsFaults often e faults = AreFaults e.form_line (all_questions (checked_entry e) often) faults

-- nothing is wrong with the formats of the entry
abbrev pub HasGoodFormats : List Bool → po.Entry → Type 0
HasGoodFormats often e = AllByRecursion IsAccepted (all_questions (checked_entry e) often)

-- these are the faults of all the entries, in their order
abbrev pub AreAllFaults : List Bool → List po.Entry → List Fault → Type 0
AreAllFaults often [] faults = faults ≡ []
AreAllFaults often (e ∷ more) faults = (first rest : List Fault) × AreItsFaults often e first
    × AreAllFaults often more rest × (faults ≡ first ++ rest)
