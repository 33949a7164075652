use Rattle.mo_image.proofs.Kit.{◌≡◌, ℕ, List, Option, sym, ap, ◌∙◌, subst, IfSome, option_map, with_nul}
use Rattle.mo_image.proofs.Closing.{only_form}
use Rattle.mo_image.proofs.entry.EntryRef.form_with_nul.Goals as goal

pub returns-in-None : goal.returns-in-None
returns-in-None c =
    let found = only_form c.self.inside.original.now c.self.inside.translation.now c.args.self.now c.args.k
    c.self.invariant.lawful c.self.view_is
    (sym c.plural.ensures ∙ ap (option_map (λ s. s.now)) c.in-None.is) c.requires in
    subst (λ (o : Option (List ℕ)). IfSome o (λ form. c.as_bytes.result.now ≡ with_nul form)) (sym found)
    (c.as_bytes.ensures.value ∙ c.self.invariant.with_nul)
