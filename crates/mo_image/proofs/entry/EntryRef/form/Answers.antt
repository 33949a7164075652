use Rattle.mo_image.proofs.Kit.{sym, ap, ◌∙◌, option_map}
use Rattle.mo_image.proofs.Closing.{only_form}
use Rattle.mo_image.proofs.entry.EntryRef.form.Goals as goal

pub returns-in-None : goal.returns-in-None
returns-in-None c = only_form c.self.inside.original.now c.self.inside.translation.now c.args.self.now c.args.k
    c.self.invariant.lawful c.self.view_is
    (sym c.plural.ensures ∙ ap (option_map (λ s. s.now)) c.in-None.is) c.requires
