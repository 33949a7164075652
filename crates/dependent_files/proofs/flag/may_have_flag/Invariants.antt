use Rattle.std.proofs.Common.{◌≡◌, length}
use Rattle.dependent_files.specs.FlagScanning.{may_have_flag}
use Rattle.dependent_files.proofs.flag.may_have_flag.Given as goal

abbrev pub invariant-directives : goal.invariant-directives
invariant-directives l = may_have_flag l.text ≡ may_have_flag l.rest

abbrev pub decreases-directives : goal.decreases-directives
decreases-directives l = length l.rest
