use Rattle.std.proofs.Common.{rules}
use Rattle.mo_image.proofs.messages.EntryStrings.new.Goals as goal

pub returns : goal.returns
returns c = search rules
