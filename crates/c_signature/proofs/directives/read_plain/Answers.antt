use Rattle.std.proofs.Common.{refl}
use Rattle.c_signature.specs.Readers.{argument_view}
use Rattle.c_signature.proofs.PlainDirectives.{reads_plain}
use Rattle.c_signature.proofs.directives.read_plain.Goals as goal

pub returns : goal.returns
returns c = reads_plain c.args.text.now c.in_ok-conversion.rest.now c.in_ok-conversion.conversion
    (argument_view c.argument_of-argument.result) c.in_ok-conversion.ensures c.argument_of-argument.ensures
    (c.if-not-is_allowed.ensures.0 refl)
