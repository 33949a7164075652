use Rattle.numbered_arguments.proofs.KindLemmas.{same_strictly, same_leniently}
use Rattle.numbered_arguments.proofs.agreement.same_kinds.Goals as goal

pub returns-clause-strict : goal.returns-clause-strict
returns-clause-strict c = same_strictly

pub returns-clause-lenient : goal.returns-clause-lenient
returns-clause-lenient c = same_leniently
