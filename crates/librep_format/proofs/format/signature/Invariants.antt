use Rattle.std.proofs.Common.{length}
use Rattle.librep_format.proofs.LibrepTextLemmas.{HasReadTo}
use Rattle.librep_format.proofs.format.signature.Given as goal

abbrev pub invariant-directives : goal.invariant-directives
invariant-directives l = HasReadTo l.text l.rest l.counted

abbrev pub decreases-directives : goal.decreases-directives
decreases-directives l = length l.rest
