use Rattle.script_formats.proofs.ScriptDirectiveLemmas.{read_is}
use Rattle.script_formats.proofs.directive.read_directive.Goals as goal

pub returns : goal.returns
returns c = read_is c.args.notation c.args.text.now (λ found. (found.0, found.1.now)) c.read.result c.read.ensures
