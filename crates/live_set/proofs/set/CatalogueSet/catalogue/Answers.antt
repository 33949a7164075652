use Rattle.live_set.proofs.Kit.{sym, subst, ◌∙◌, is_for, IsName}
use Rattle.catalogue_drafts.proofs.Members.{from_find}
use Rattle.live_set.proofs.Order.{for_tied, same_locale}
use Rattle.live_set.proofs.set.CatalogueSet.catalogue.Goals as goal

-- the load that is found is for the locale, and each load's locale is a name
pub returns-clause-name : goal.returns-clause-name
returns-clause-name c =
    let load = c.in_ok-load.load.now in
    let passes = (from_find (is_for c.args.domain.now c.new.result) _ load (sym c.in_ok-load.ensures)).1 in
    let same = same_locale c.args.domain.now c.new.result load (for_tied c.args.domain.now c.new.result load passes) in
    subst IsName (same ∙ c.new.ensures) c.catalogue.ensures.name
