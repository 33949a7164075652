use Rattle.std.proofs.Common.{◌≡◌, take, Some}
use Rattle.po_header.specs.Tokens.{below_limit}
use Rattle.byte_text.specs.Decimal.{decimal_value}
use Rattle.po_header.proofs.token.number_of.Given as goal

abbrev pub invariant-loop-digit : goal.invariant-loop-digit
invariant-loop-digit l = Some l.value ≡ below_limit (decimal_value (take l.digit-index l.digits))
