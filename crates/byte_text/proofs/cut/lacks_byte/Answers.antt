use Rattle.byte_text.proofs.Cutting.{lacks_is}
use Rattle.byte_text.proofs.cut.lacks_byte.Goals as goal

pub returns : goal.returns
returns c = lacks_is c.args.byte c.args.bytes.now c.offset_in.result c.is_none.result c.offset_in.ensures
    c.is_none.ensures
