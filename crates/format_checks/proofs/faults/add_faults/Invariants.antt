use Rattle.std.proofs.Common.{take}
use Rattle.std.specs.List.{flat_map}
use Rattle.format_checks.specs.FormatViews.{entry_view}
use Rattle.format_checks.specs.FormatFaults.{checked_languages, flagged_questions, AddsFaults}
use Rattle.format_checks.proofs.faults.add_faults.Given as goal

abbrev pub invariant-languages : goal.invariant-languages
invariant-languages l = AddsFaults l.entry.line
    (flat_map (flagged_questions (entry_view l.entry) l.often) (take l.language-index checked_languages))
    l.fn.faults.items
    l.faults.items
