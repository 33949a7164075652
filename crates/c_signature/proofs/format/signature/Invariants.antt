use Rattle.std.proofs.Common.{length}
use Rattle.c_signature.proofs.FormatLemmas.{HasRead}
use Rattle.c_signature.proofs.format.signature.Given as goal

abbrev pub invariant-directives : goal.invariant-directives
invariant-directives l = HasRead l.text l.rest l.requests

abbrev pub decreases-directives : goal.decreases-directives
decreases-directives l = length l.rest
