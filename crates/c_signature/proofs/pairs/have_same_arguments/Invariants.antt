use Rattle.std.proofs.Common.{length}
use Rattle.c_signature.proofs.PairLemmas.{ReadBoth}
use Rattle.c_signature.proofs.pairs.have_same_arguments.Given as goal

abbrev pub invariant-directives : goal.invariant-directives
invariant-directives l = ReadBoth l.first l.second l.rest l.others

abbrev pub decreases-directives : goal.decreases-directives
decreases-directives l = length l.rest
