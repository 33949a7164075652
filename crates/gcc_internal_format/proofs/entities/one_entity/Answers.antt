use Rattle.gcc_internal_format.proofs.GccEntityLemmas.{own_kind, is_apart}
use Rattle.gcc_internal_format.proofs.entities.one_entity.Goals as goal

pub returns-clause-own : goal.returns-clause-own
returns-clause-own c = own_kind

pub returns-clause-apart : goal.returns-clause-apart
returns-clause-apart c = is_apart
