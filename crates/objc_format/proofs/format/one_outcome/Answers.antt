use Rattle.objc_format.proofs.ObjcTextLemmas.{one_list, read_or_unread}
use Rattle.objc_format.proofs.format.one_outcome.Goals as goal

pub returns-clause-one : goal.returns-clause-one
returns-clause-one c = one_list

pub returns-clause-none : goal.returns-clause-none
returns-clause-none c = read_or_unread
