use Rattle.std.proofs.Common.{length}
use Rattle.java_printf_format.proofs.PrintfTextLemmas.{HasCounted}
use Rattle.java_printf_format.proofs.format.signature.Given as goal

abbrev pub invariant-directives : goal.invariant-directives
invariant-directives l = HasCounted l.text l.rest l.collected

abbrev pub decreases-directives : goal.decreases-directives
decreases-directives l = length l.rest
