use Rattle.catalogue.proofs.OneMeaning.{meaning_one, refusal_one, means_or_refuses}
use Rattle.catalogue.proofs.SomeMeaning.{some_meaning}
use Rattle.catalogue.proofs.law.one_meaning.Goals as goal

pub returns-clause-meaning : goal.returns-clause-meaning
returns-clause-meaning c = meaning_one

pub returns-clause-refusal : goal.returns-clause-refusal
returns-clause-refusal c = refusal_one

pub returns-clause-apart : goal.returns-clause-apart
returns-clause-apart c = means_or_refuses

pub returns-clause-some : goal.returns-clause-some
returns-clause-some c = some_meaning
