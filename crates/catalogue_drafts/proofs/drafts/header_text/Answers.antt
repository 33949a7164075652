use Rattle.catalogue_drafts.proofs.Kit.{Option, ap, ◌∙◌, option_map, outline, Draft}
use Rattle.catalogue_drafts.specs.Drafts.{text_found}
use Rattle.catalogue_drafts.proofs.drafts.header_text.Goals as goal

pub returns-in-Some : goal.returns-in-Some
returns-in-Some c = c.first_form_of.ensures ∙ ap (λ (found : Option Draft). text_found (option_map outline found))
    c.in-Some.ensures

pub returns-in-None : goal.returns-in-None
returns-in-None c = ap (λ (found : Option Draft). text_found (option_map outline found)) c.in-None.ensures
