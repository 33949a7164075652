use Rattle.live_set.proofs.Kit.{◌≡◌, drop, find, map, has_key, map_at}
use Rattle.live_set.proofs.set.CatalogueSet.find_in_places.Given as goal

abbrev pub invariant-places : goal.invariant-places
invariant-places l = let maps = map (map_at l.self.held) in
    find (has_key l.key) (maps l.places) ≡ find (has_key l.key) (maps (drop l.place-index l.places))
