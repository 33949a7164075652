use Rattle.catalogue_map.proofs.Kit.{rules, IsLawfulEntry, message_entry}
use Rattle.std.proofs.lemmas.Iterator.{cases_from_all, YieldsList-from_slice}
use Rattle.catalogue_map.proofs.Accepting.{each_decided}
use Rattle.catalogue_map.proofs.accepts.are_lawful.Goals as goal

pub returns : goal.returns
returns c =
    each_decided message_entry IsLawfulEntry _ c.args.messages.now
    (cases_from_all _ _ _ (λ m. IsLawfulEntry (message_entry m)) (λ m. IsLawfulEntry (message_entry m) → ⊥)
    c.all.ensures.ran (YieldsList-from_slice c.args.messages.now cc) (λ x q k. search rules)
    (λ x q k. search rules))
