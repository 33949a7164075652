use Rattle.std.proofs.Common.{rules}
use Rattle.po_text.proofs.reader.EntryReader.next_entry.Goals as goal

pub returns-in-Err-clause-failed : goal.returns-in-Err-clause-failed
returns-in-Err-clause-failed c = search rules
