use Rattle.std.proofs.Common.{length}
use Rattle.lisp_formats.proofs.LispParameterLemmas.{HasReadParameters}
use Rattle.lisp_formats.proofs.parameters.read_parameters.Given as goal

abbrev pub invariant-parameters : goal.invariant-parameters
invariant-parameters l = HasReadParameters l.fn.text l.rest l.parameters.items

abbrev pub decreases-parameters : goal.decreases-parameters
decreases-parameters l = length l.rest
