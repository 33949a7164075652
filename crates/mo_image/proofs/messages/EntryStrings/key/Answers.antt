use Rattle.mo_image.proofs.Kit.{sym, ap, ◌∙◌, key}
use Rattle.mo_image.proofs.KeyParts.{rejoined}
use Rattle.mo_image.proofs.messages.EntryStrings.key.Goals as goal

pub returns : goal.returns
returns c = sym (rejoined c.self.inside.key.now) ∙ ap key c.self.view_is
