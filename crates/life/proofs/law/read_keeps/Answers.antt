use Rattle.life.proofs.Calls.{enter_keeps, ask_keeps, ask_fault_keeps, learn_keeps, settle_keeps}
use Rattle.life.proofs.law.read_keeps.Goals as goal

pub returns-clause-enter : goal.returns-clause-enter
returns-clause-enter c = enter_keeps

pub returns-clause-ask : goal.returns-clause-ask
returns-clause-ask c = ask_keeps

pub returns-clause-ask_fault : goal.returns-clause-ask_fault
returns-clause-ask_fault c = ask_fault_keeps

pub returns-clause-learn : goal.returns-clause-learn
returns-clause-learn c = learn_keeps

pub returns-clause-settle : goal.returns-clause-settle
returns-clause-settle c = settle_keeps
