use Rattle.std.proofs.Common.{length}
use Rattle.lisp_formats.proofs.LispTextLemmas.{HasReadTo}
use Rattle.lisp_formats.proofs.format.signature.Given as goal

abbrev pub invariant-directives : goal.invariant-directives
invariant-directives l = HasReadTo l.notation l.text l.rest l.asked.items

abbrev pub decreases-directives : goal.decreases-directives
decreases-directives l = length l.rest
