use Rattle.std.proofs.Common.{rules, string_bytes}
use Rattle.std.proofs.lemmas.Iterator.{cases_from_all, YieldsList-from_slice}
use Rattle.mo_image.specs.Entry.{IsText}
use Rattle.catalogue_map.proofs.Accepting.{each_decided}
use Rattle.catalogue_map.proofs.accepts.are_texts.Goals as goal

pub returns : goal.returns
returns c =
    each_decided (λ s. string_bytes s) IsText _ c.args.forms.now
    (cases_from_all _ _ _ (λ s. IsText (string_bytes s)) (λ s. IsText (string_bytes s) → ⊥) c.all.ensures.ran
    (YieldsList-from_slice c.args.forms.now cc) (λ x q k. search rules) (λ x q k. search rules))
