use Rattle.life.proofs.Calls.{load_keeps, load_mo_keeps, refusal_keeps}
use Rattle.life.proofs.law.load_keeps.Goals as goal

pub returns-clause-po : goal.returns-clause-po
returns-clause-po c = load_keeps

pub returns-clause-mo : goal.returns-clause-mo
returns-clause-mo c = load_mo_keeps

pub returns-clause-refused : goal.returns-clause-refused
returns-clause-refused c = refusal_keeps
