use Rattle.std.proofs.Common.{rules}
use Rattle.live_set.proofs.Finding.{absorbs}
use Rattle.live_set.proofs.set.CatalogueSet.absorb.Goals as goal

pub returns-clause-ok : goal.returns-clause-ok
returns-clause-ok c = absorbs c.args.load.now c.args.self.now _ (search rules)

pub returns-clause-value : goal.returns-clause-value
returns-clause-value c = search rules

pub returns-in_err-put-clause-err : goal.returns-in_err-put-clause-err
returns-in_err-put-clause-err c = search rules
