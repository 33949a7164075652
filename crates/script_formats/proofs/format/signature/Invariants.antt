use Rattle.std.proofs.Common.{length}
use Rattle.script_formats.proofs.ScriptTextLemmas.{HasReadTo}
use Rattle.script_formats.proofs.format.signature.Given as goal

abbrev pub invariant-directives : goal.invariant-directives
invariant-directives l = HasReadTo l.notation l.text l.rest l.collected

abbrev pub decreases-directives : goal.decreases-directives
decreases-directives l = length l.rest
