use Rattle.std.proofs.Common.{◌≡◌, take}
use Rattle.csharp_format.specs.CSharpAgreement.{argument_count}
use Rattle.csharp_format.proofs.agreement.passed.Given as goal

abbrev pub invariant-asked : goal.invariant-asked
invariant-asked l = l.count ≡ argument_count (take l.argument-index l.asked)
