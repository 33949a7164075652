use Rattle.mo_image.proofs.FormLists.{cut_first, cut_none}
use Rattle.mo_image.proofs.entry.split_form.Goals as goal

pub returns-in-Some : goal.returns-in-Some
returns-in-Some c =
    let at = rw c.in-Some.is at c.split_at_byte.ensures.cases in
    cut_first _ _ _ (at.within, at.front_is, at.behind_is)

pub returns-in-None : goal.returns-in-None
returns-in-None c = cut_none _ (rw c.in-None.is at c.split_at_byte.ensures.cases)
