use Rattle.std.proofs.Common.{take}
use Rattle.std.specs.List.{Any}
use Rattle.dependent_files.specs.DigitsFlag.{HasFlag}
use Rattle.dependent_files.proofs.flag.entry_has_flag.Given as goal

abbrev pub invariant-forms : goal.invariant-forms
invariant-forms l = ¬ Any HasFlag (take l.k l.entry.forms)
