use Rattle.std.proofs.Common.{◌≡◌, ◌<◌, ◌^◌, take}
use Rattle.byte_text.specs.Decimal.{decimal_value}
use Rattle.c_signature.proofs.parts.number_of.Given as goal

abbrev pub invariant-loop-digit : goal.invariant-loop-digit
invariant-loop-digit l = record {
  value : l.number ≡ decimal_value (take l.digit-index l.digits);
  small : l.number < 10 ^ l.digit-index;
}
