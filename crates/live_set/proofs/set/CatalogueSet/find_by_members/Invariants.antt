use Rattle.live_set.proofs.Kit.{◌≡◌, length, find, IsUtf8, has_key, map_in}
use Rattle.live_set.specs.Asks.{maps_named}
use Rattle.live_set.proofs.set.CatalogueSet.find_by_members.Given as goal

abbrev pub invariant-members : goal.invariant-members
invariant-members l = let maps = maps_named (map_in l.self.held) l.domain in
    (find (has_key l.key) (maps l.languages) ≡ find (has_key l.key) (maps l.rest)) × IsUtf8 l.rest

abbrev pub decreases-members : goal.decreases-members
decreases-members l = length l.rest
