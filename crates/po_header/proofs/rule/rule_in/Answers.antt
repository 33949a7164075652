use Rattle.std.proofs.Common.{rules}
use Rattle.po_header.proofs.rule.rule_in.Goals as goal

pub returns-in-None-clause-ok : goal.returns-in-None-clause-ok
returns-in-None-clause-ok c = search rules
