use Rattle.po_header.proofs.Kit.{arith, is_ascii_digit, prefix_len-le-length}
use Rattle.po_header.proofs.TokenLemmas.{Begins-numeral, large_numeral}
use Rattle.po_header.proofs.token.numeral_at.Goals as goal

pub split_at-requires : goal.split_at-requires
split_at-requires c = omega (arith, c.digits_len.ensures, prefix_len-le-length is_ascii_digit c.args.text.now)

pub returns-in-Some-clause-some : goal.returns-in-Some-clause-some
returns-in-Some-clause-some c =
    Begins-numeral c.args.text.now c.split_at.result.0.now c.split_at.result.1.now c.digits_len.result c.in-Some.value
    c.split_at.ensures.front c.split_at.ensures.back c.digits_len.ensures c.requires c.in-Some.ensures

pub returns-in-None-clause-none : goal.returns-in-None-clause-none
returns-in-None-clause-none c =
    large_numeral c.args.text.now c.requires (rw (c.split_at.ensures.front, c.digits_len.ensures) at c.in-None.ensures)
