use Rattle.po_formats.proofs.OneList.{faults_one, none_good}
use Rattle.po_formats.proofs.any.one_list.Goals as goal

pub returns-clause-one : goal.returns-clause-one
returns-clause-one c = faults_one

pub returns-clause-none : goal.returns-clause-none
returns-clause-none c = none_good
