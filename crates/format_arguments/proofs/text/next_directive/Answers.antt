use Rattle.format_arguments.proofs.TextLemmas.{no_mark, to_mark}
use Rattle.format_arguments.proofs.text.next_directive.Goals as goal

pub returns-in_err-offset : goal.returns-in_err-offset
returns-in_err-offset c = rw c.from_residual.ensures (no_mark c.args.mark c.args.text.now c.in_err-offset.ensures)

pub returns : goal.returns
returns c = to_mark c.args.mark c.args.text.now c.in_ok-offset.offset c.in_ok-offset.ensures
