use Rattle.c_handles.proofs.Closings.{closings_may_come_last}
use Rattle.c_handles.proofs.Example.{first_calls_are_possible}
use Rattle.c_handles.proofs.OneHistory.{readers_go_on, handles_have_one_history}
use Rattle.c_handles.proofs.Provenance.{readers_stay}
use Rattle.c_handles.proofs.law.handles_have_one_history.Goals as goal

pub returns-clause-stay : goal.returns-clause-stay
returns-clause-stay c = readers_stay

pub returns-clause-history : goal.returns-clause-history
returns-clause-history c = handles_have_one_history

pub returns-clause-closings : goal.returns-clause-closings
returns-clause-closings c = closings_may_come_last

pub returns-clause-versions : goal.returns-clause-versions
returns-clause-versions c = readers_go_on

pub returns-clause-possible : goal.returns-clause-possible
returns-clause-possible c = first_calls_are_possible
