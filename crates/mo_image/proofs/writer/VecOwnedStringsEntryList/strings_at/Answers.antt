use Rattle.mo_image.specs.Stored.{stored_entry}
use Rattle.mo_image.proofs.Lists.{image_at}
use Rattle.mo_image.proofs.writer.VecOwnedStringsEntryList.strings_at.Goals as goal

pub returns : goal.returns
returns c = rw c.lend.ensures (image_at stored_entry c.args.self.now.items c.args.i c.index.result.now c.requires
    c.index.ensures)
