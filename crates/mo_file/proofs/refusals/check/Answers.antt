use Rattle.mo_file.proofs.Named.{checked}
use Rattle.mo_file.proofs.refusals.check.Goals as goal

pub returns-clause-ok : goal.returns-clause-ok
returns-clause-ok c = checked c.args.bytes.now c.check_all.result c.check_all.ensures.ok
