use Rattle.std.proofs.Common.{refl}
use Rattle.c_signature.proofs.PairLemmas.{read_same}
use Rattle.c_signature.proofs.pairs.split_pair.Goals as goal

pub returns-then-same_directive : goal.returns-then-same_directive
returns-then-same_directive c = read_same _ _ c.in-Ok.rest.now c.in-Ok-read_directive.others.now c.in-Ok.directive
    c.in-Ok-read_directive.other c.in-Ok.ensures.ok c.in-Ok-read_directive.ensures.ok (c.if-same_directive.ensures refl)
