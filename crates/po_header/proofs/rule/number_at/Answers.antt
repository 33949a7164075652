use Rattle.po_header.proofs.Kit.{arith, is_ascii_digit, prefix_len-le-length}
use Rattle.po_header.proofs.rule.number_at.Goals as goal

pub split_at-requires : goal.split_at-requires
split_at-requires c = omega (
  arith,
  c.digits_len.ensures,
  prefix_len-le-length is_ascii_digit
      c.skip_blanks-rest.result.now,
)
