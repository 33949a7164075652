use Rattle.format_checks.proofs.OneList.{one_list, none_wrong}
use Rattle.format_checks.proofs.faults.one_list.Goals as goal

pub returns-clause-one : goal.returns-clause-one
returns-clause-one c = one_list

pub returns-clause-none : goal.returns-clause-none
returns-clause-none c = none_wrong
