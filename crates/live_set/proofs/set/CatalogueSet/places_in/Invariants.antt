use Rattle.live_set.proofs.Kit.{length, IsUtf8, named_locales}
use Rattle.live_set.specs.SetPlaces.{IsListed}
use Rattle.live_set.specs.Placing.{IsExtended}
use Rattle.live_set.specs.declared.places.Places.{Places}
use Rattle.live_set.proofs.set.CatalogueSet.places_in.Given as goal

-- what the rest of the list adds to the places so far are the places of the whole list
abbrev pub invariant-members : goal.invariant-members
invariant-members l = ((all : Places) → IsExtended l.self.held l.domain (named_locales l.rest) l.places all
    → IsListed l.self.held l.domain l.languages all) × IsUtf8 l.rest

abbrev pub decreases-members : goal.decreases-members
decreases-members l = length l.rest
