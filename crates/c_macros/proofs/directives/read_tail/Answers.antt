use Rattle.std.proofs.lemmas.Bool.{false≢true}
use Rattle.c_macros.proofs.ReaderLemmas.{not_allowed}
use Rattle.c_macros.proofs.directives.read_tail.Goals as goal

pub returns-else-is_allowed : goal.returns-else-is_allowed
returns-else-is_allowed c = not_allowed c.args.number _ c.in_ok-conversion.conversion c.args.text.now
    c.in_ok-conversion.rest.now (rw c.in_ok-conversion.ensures at c.read_modifier-modifier.ensures)
    (λ allowed. false≢true (c.if-is_allowed.ensures.1 (rw c.argument_of-argument.ensures allowed)))
