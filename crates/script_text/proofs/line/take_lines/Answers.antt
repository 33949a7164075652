use Rattle.std.proofs.Common.{arith}
use Rattle.script_text.proofs.Taking.{too_few, takes_more}
use Rattle.script_text.proofs.line.take_lines.Goals as goal

pub returns-in_err-behind : goal.returns-in_err-behind
returns-in_err-behind c = rw c.from_residual.ensures (too_few c.args.count c.lines.invariant c.in_err-behind.ensures
    (omega arith))

pub lines-preserved : goal.lines-preserved
lines-preserved c = takes_more c.lines.invariant c.in_ok-behind.ensures
