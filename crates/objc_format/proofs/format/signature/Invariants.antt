use Rattle.std.proofs.Common.{length}
use Rattle.objc_format.proofs.ObjcTextLemmas.{HasReadTo}
use Rattle.objc_format.proofs.format.signature.Given as goal

abbrev pub invariant-directives : goal.invariant-directives
invariant-directives l = HasReadTo l.text l.rest l.requests.items

abbrev pub decreases-directives : goal.decreases-directives
decreases-directives l = length l.rest
