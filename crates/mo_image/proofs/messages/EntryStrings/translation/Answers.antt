use Rattle.mo_image.proofs.Kit.{sym, ap, ◌∙◌, join_with_byte-slice_split, translation}
use Rattle.mo_image.proofs.messages.EntryStrings.translation.Goals as goal

pub returns : goal.returns
returns c = sym (join_with_byte-slice_split 0 c.self.inside.translation.now) ∙ ap translation c.self.view_is
