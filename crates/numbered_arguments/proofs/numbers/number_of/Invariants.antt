use Rattle.std.proofs.Common.{◌≡◌, take}
use Rattle.numbered_arguments.specs.NumberedArguments.{number_of}
use Rattle.numbered_arguments.proofs.numbers.number_of.Given as goal

abbrev pub invariant-digits : goal.invariant-digits
invariant-digits l = l.number ≡ number_of (take l.digit-index l.digits)
