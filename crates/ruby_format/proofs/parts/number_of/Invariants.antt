use Rattle.std.proofs.Common.{◌≡◌, take}
use Rattle.ruby_format.specs.RubyPieces.{number_of}
use Rattle.ruby_format.proofs.parts.number_of.Given as goal

abbrev pub invariant-digits : goal.invariant-digits
invariant-digits l = l.number ≡ number_of (take l.digit-index l.digits)
