-- The latest load of each domain and locale is enough.
use Rattle.std.specs.Prelude.{◌≡◌, ℕ, if◌then◌else◌, List, [], ◌∷◌}
use Rattle.std.specs.List.{list_any}
use Rattle.live_set.specs.Loads.{LoadValue, is_for, map_of}

-- the loads without those that a later one for the same domain and locale replaces
abbrev pub latest_loads : List LoadValue → List LoadValue
latest_loads [] = []
latest_loads (load ∷ loads) =
    if list_any (is_for load.domain load.locale) loads then latest_loads loads else load ∷ latest_loads loads

-- the latest loads give each domain and locale the map that all loads give it
abbrev pub LatestSuffice : Type 0
LatestSuffice = (loads : List LoadValue) (domain locale : List ℕ)
    → map_of (latest_loads loads) domain locale ≡ map_of loads domain locale
