use Rattle.c_signature.proofs.FormatLemmas.{no_percent, to_percent}
use Rattle.c_signature.proofs.format.next_directive.Goals as goal

pub returns-then-offset-text : goal.returns-then-offset-text
returns-then-offset-text c = to_percent c.args.text.now c.offset_of-offset.result c.offset_of-offset.ensures.offset
    c.if-offset-text.true

pub returns-else-offset-text : goal.returns-else-offset-text
returns-else-offset-text c = no_percent c.args.text.now c.offset_of-offset.result c.offset_of-offset.ensures.offset
    c.if-offset-text.false
