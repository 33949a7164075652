use Rattle.po_header.proofs.RuleLemmas.{HasRule-one, HasRule-some}
use Rattle.po_header.proofs.rule.one_rule.Goals as goal

pub returns-clause-one : goal.returns-clause-one
returns-clause-one c = HasRule-one

pub returns-clause-some : goal.returns-clause-some
returns-clause-some c = HasRule-some
