use Rattle.std.proofs.Common.{rules}
use Rattle.po_text.proofs.buffer.EntryBuffer.to_entry.Goals as goal

pub returns : goal.returns
returns c = search rules
