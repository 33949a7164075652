use Rattle.std.proofs.Common.{◌≡◌, ℕ, ◌<◌, ◌^◌, true, get_or, take}
use Rattle.std.specs.Char.{is_ascii_digit}
use Rattle.byte_text.specs.Decimal.{decimal_value}
use Rattle.po_text.proofs.lexer.number.Given as goal

abbrev pub invariant-loop-digit : goal.invariant-loop-digit
invariant-loop-digit l = record {
  digits : (k : ℕ) → k < l.digit-index → is_ascii_digit (get_or l.word k 0) ≡ true;
  value : l.value ≡ decimal_value (take l.digit-index l.word);
  small : l.value < 10 ^ l.digit-index;
}
