use Rattle.catalogue_map.proofs.Kit.{sym, ◌∙◌, false≢true}
use Rattle.catalogue_map.proofs.accepts.has_lawful_forms.Goals as goal

pub returns-else-are_texts : goal.returns-else-are_texts
returns-else-are_texts c =
    let tells = rw c.as_slice.ensures.value at c.are_texts.ensures in
    ((λ e. absurd (false≢true (sym c.if-are_texts.false ∙ e))), (λ forms. tells.1 forms.texts))
