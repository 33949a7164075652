use Rattle.std.proofs.Common.{rules}
use Rattle.live_versions.proofs.publisher.Publisher.publish.Goals as goal

pub returns-then-self-eq0-clause-memory : goal.returns-then-self-eq0-clause-memory
returns-then-self-eq0-clause-memory g c = search rules

pub invariant_of-self-2 : goal.invariant_of-self-2
invariant_of-self-2 g c = search rules

pub returns-clause-ok : goal.returns-clause-ok
returns-clause-ok g c = search rules

pub returns-clause-most : goal.returns-clause-most
returns-clause-most g c = search rules
