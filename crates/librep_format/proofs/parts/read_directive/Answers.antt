use Rattle.librep_format.proofs.LibrepDirectiveLemmas.{read_is}
use Rattle.librep_format.proofs.parts.read_directive.Goals as goal

pub returns : goal.returns
returns c = read_is c.args.text.now (λ found. (found.0, found.1.now)) c.read.result c.read.ensures
