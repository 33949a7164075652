use Rattle.gfc_internal_format.proofs.GfcDirectiveLemmas.{read_is}
use Rattle.gfc_internal_format.proofs.directive.read_directive.Goals as goal

pub returns : goal.returns
returns c = read_is c.args.text.now (λ found. (found.0, found.1.now)) c.read.result c.read.ensures
