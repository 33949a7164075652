use Rattle.script_text.proofs.Parsing.{ends, ends_few, goes_on}
use Rattle.script_text.proofs.parse.parse.Goals as goal

pub lines-preserved : goal.lines-preserved
lines-preserved c = goes_on c.lines.invariant c.in-Some.ensures c.in-Ok.ensures.ok

pub returns-clause-ok : goal.returns-clause-ok
returns-clause-ok c = ends c.lines.said.items c.lines.invariant c.in_default.ensures

pub returns-clause-few : goal.returns-clause-few
returns-clause-few c = ends_few c.lines.said.items c.lines.invariant
