use Rattle.mo_image.proofs.Kit.{sym, ap, ◌∙◌, join_with_byte-slice_split, translation}
use Rattle.mo_image.proofs.entry.EntryRef.translation.Goals as goal

pub returns-clause-joined : goal.returns-clause-joined
returns-clause-joined c = sym (join_with_byte-slice_split 0 c.self.inside.translation.now)
    ∙ ap translation c.self.view_is
