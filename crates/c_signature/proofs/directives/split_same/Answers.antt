use Rattle.std.proofs.Common.{refl}
use Rattle.c_signature.specs.Readers.{argument_view}
use Rattle.c_signature.proofs.PairLemmas.{plain_same}
use Rattle.c_signature.proofs.directives.split_same.Goals as goal

pub returns : goal.returns
returns c = plain_same c.args.first.now c.args.second.now c.in_ok-conversion.rest.now c.in_ok-other.others.now
    c.in_ok-conversion.conversion c.in_ok-other.other (argument_view c.argument_of-argument.result)
    c.in_ok-conversion.ensures c.in_ok-other.ensures c.if-conversion-other.false c.argument_of-argument.ensures
    (c.if-not-is_allowed.ensures.0 refl)
