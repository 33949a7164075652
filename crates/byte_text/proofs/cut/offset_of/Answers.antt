use Rattle.std.proofs.Common.{sym}
use Rattle.byte_text.proofs.Cutting.{offset_found, offset_none}
use Rattle.byte_text.proofs.cut.offset_of.Goals as goal

pub returns-in-Some-clause-offset : goal.returns-in-Some-clause-offset
returns-in-Some-clause-offset c = sym (offset_found c.args.byte c.args.bytes.now c.in-Some.at c.in-Some.ensures)

pub returns-in-None-clause-offset : goal.returns-in-None-clause-offset
returns-in-None-clause-offset c = sym (offset_none c.args.byte c.args.bytes.now c.in-None.ensures)
