use Rattle.std.proofs.Common.{length}
use Rattle.gfc_internal_format.proofs.GfcTextLemmas.{HasReadTo}
use Rattle.gfc_internal_format.proofs.format.signature.Given as goal

abbrev pub invariant-directives : goal.invariant-directives
invariant-directives l = HasReadTo l.text l.rest l.counted

abbrev pub decreases-directives : goal.decreases-directives
decreases-directives l = length l.rest
