use Rattle.std.proofs.Common.{length}
use Rattle.c_macros.proofs.ReadingLemmas.{Reading}
use Rattle.c_macros.proofs.format.read_directives.Given as goal

abbrev pub invariant-directives : goal.invariant-directives
invariant-directives l = Reading l.text l.rest l.asked.items l.parts.items

abbrev pub decreases-directives : goal.decreases-directives
decreases-directives l = length l.rest
