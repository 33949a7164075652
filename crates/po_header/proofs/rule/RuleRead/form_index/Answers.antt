use Rattle.std.proofs.Common.{rules}
use Rattle.po_header.proofs.rule.RuleRead.form_index.Goals as goal

pub returns-in-Some : goal.returns-in-Some
returns-in-Some c = search rules
