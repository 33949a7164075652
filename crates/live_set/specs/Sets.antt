-- A set of catalogues: the number of loads it absorbed, its map for each domain and locale, and the effect of one more
-- load.
use Rattle.std.specs.Prelude.{◌≡◌, ℕ, ◌+◌, min, if◌then◌else◌, List, [], fold as fold_list}
use Rattle.std.specs.List.{find}
use Rattle.catalogue.specs.Entry.{Entry}
use Rattle.live_set.specs.Loads.{LoadValue, is_for, map_or_empty}
use Rattle.live_set.specs.Slots.{with_slot}

-- the number of loads absorbed, and the loads that are still in use
pub record SetValue : Type 0 where
  pub version : ℕ
  pub held : List LoadValue

-- the map that a set has for the domain and the locale, or the empty map
abbrev pub map_in : List LoadValue → List ℕ → List ℕ → List Entry
map_in held domain locale = map_or_empty (find (is_for domain locale) held)

-- the set of no loads
abbrev pub no_loads : SetValue
no_loads = record { version = 0; held = [] }

-- one more load: the version rises by one, up to 2 ^ 64 - 1; the load's domain and locale get the load's map, and all
-- others keep theirs
pub record HasAbsorbed (load : LoadValue) (old new : SetValue) : Type 0 where
  pub version : new.version ≡ min (old.version + 1) 18446744073709551615
  pub maps : (domain locale : List ℕ)
      → map_in new.held domain locale ≡ (if is_for domain locale load then load.map else map_in old.held domain locale)

-- ---- for crates that keep two copies of a set equal: the one value that a set has after its loads

-- one more load
abbrev pub with_load : SetValue → LoadValue → SetValue
with_load s load = record { version = min (s.version + 1) 18446744073709551615; held = with_slot s.held load }

-- the loads of a list, absorbed one after another
abbrev pub fold : List LoadValue → SetValue
fold loads = fold_list with_load no_loads loads
