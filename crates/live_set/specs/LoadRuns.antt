-- Private: consecutive runs of loads.
use Rattle.std.specs.Prelude.{◌≡◌, ℕ, ◌+◌, ◌<◌, Bool, false, List, [], ◌∷◌, ◌++◌, Option, Some, None, length, flat_map}
use Rattle.std.specs.Prelude.{min, slice_get, Result, MatchResult}
use Rattle.std.specs.Arc.{arc_value}
use Rattle.std.specs.List.{AllByRecursion}
use Rattle.std.specs.Ordering.{is_le}
use Rattle.std.specs.declared.alloc.Global.{Global}
use Rattle.std.specs.declared.sync.Arc.{Arc}
use Rattle.live_set.specs.Loads.{LoadValue}
use Rattle.live_set.specs.Slots.{order_of, probe, Rises}
use denote.Ref.{Bor}

-- the run begins at or before the place of a load for the domain and the locale
abbrev pub begins_by : List ℕ → List ℕ → List LoadValue → Bool
begins_by domain locale [] = false
begins_by domain locale (l ∷ ls) = is_le (order_of l (probe domain locale))

-- the number of runs up to this one
abbrev pub begun_count : Option ℕ → ℕ
begun_count None = 0
begun_count (Some at) = at + 1

-- the loads of a run that copies share
abbrev pub loads_in : {R : Type 0} → (R → List LoadValue) → Arc R Global → List LoadValue
loads_in loads run = loads (arc_value run)

-- the load with the index, or else by how much the index exceeds the number of loads
abbrev pub IsLoadAt : List LoadValue → ℕ → Result (Bor LoadValue) ℕ → Type 0
IsLoadAt loads index found = MatchResult found (λ load. slice_get loads index ≡ Some load.now)
    (λ left. index ≡ length loads + left)

-- the loads are cut in two parts, neither of which is empty
pub record IsCut (whole lower upper : List LoadValue) : Type 0 where
  pub joined : lower ++ upper ≡ whole
  pub some_lower : 0 < length lower
  pub some_upper : 0 < length upper

-- the first loads and those of the runs after them ascend, no run is empty, and the count counts them
pub record IsInRuns {R : Type 0} (of : R → List LoadValue) (first : List LoadValue) (later : List R) (count : ℕ)
    : Type 0 where
  pub rises : Rises (first ++ flat_map of later)
  pub has : AllByRecursion (λ run. 0 < length (of run)) later
  pub counted : count ≡ min (length (first ++ flat_map of later)) 18446744073709551615
