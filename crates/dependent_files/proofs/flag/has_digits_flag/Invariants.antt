use Rattle.std.proofs.Common.{take}
use Rattle.std.specs.List.{Any}
use Rattle.dependent_files.specs.DigitsFlag.{FormHasFlag}
use Rattle.dependent_files.proofs.flag.has_digits_flag.Given as goal

abbrev pub invariant-entries : goal.invariant-entries
invariant-entries l = ¬ Any FormHasFlag (take l.i l.catalogue)
