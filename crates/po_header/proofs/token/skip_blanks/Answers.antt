use Rattle.po_header.proofs.Kit.{arith, prefix_len-le-length, is_blank}
use Rattle.po_header.proofs.TokenLemmas.{Begins-blanks, StopsBlanks-blanks}
use Rattle.po_header.proofs.token.skip_blanks.Goals as goal

pub split_at-requires : goal.split_at-requires
split_at-requires c = omega (arith, c.blanks_len.ensures, prefix_len-le-length is_blank c.args.text.now)

pub returns-clause-blanks : goal.returns-clause-blanks
returns-clause-blanks c = rw (c.split_at.ensures.back, c.blanks_len.ensures) (Begins-blanks c.args.text.now)

pub returns-clause-stops : goal.returns-clause-stops
returns-clause-stops c = rw (c.split_at.ensures.back, c.blanks_len.ensures) (StopsBlanks-blanks c.args.text.now)
