use Rattle.mo_image.proofs.Kit.{sym, ap, ◌∙◌, key}
use Rattle.mo_image.proofs.Originals.{key_is}
use Rattle.mo_image.proofs.entry.EntryRef.key.Goals as goal

pub returns : goal.returns
returns c = c.key_within.ensures ∙ sym (key_is c.self.inside.original.now c.self.inside.translation.now)
    ∙ ap key c.self.view_is
