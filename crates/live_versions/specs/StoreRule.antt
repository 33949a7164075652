-- Private: the invariant over the set that readers look up in and over what the publisher and each reader know.
use Rattle.std.specs.Prelude.{◌≡◌, ⊤, ℕ, ◌^◌, ◌<◌, List, [], ◌∷◌}
use mathlib.Core.Option.{some}
use lib.ListN.{get_elem?}
use Rattle.logbook.specs.Pages.{Book}
use Rattle.live_set.specs.Sets.{SetValue, with_load, fold}
use Rattle.live_versions.specs.declared.rule.Common.{Common}
use Rattle.live_versions.specs.declared.rule.Change.{Change}
use Rattle.live_versions.specs.declared.rule.Change.TheVariants.{Load, Seal}
use Rattle.live_loads.specs.Seen.{SeenValue}
use Rattle.live_versions.specs.SeatViews.{ViewValue}
use Rattle.live_loads.specs.Batches.{joined_loads, version_of, StartsWith, NoneEmpty}

-- what a change does to a copy
abbrev pub applied_to : Common → Change → Common
applied_to s (Load load) = record { set = with_load s.set load; seen = s.seen }
applied_to s (Seal seen) = record { set = s.set; seen = seen }

-- each book that is known is this one
abbrev pub Only : Book → List Book → Type 0
Only b [] = ⊤
Only b (x ∷ xs) = (x ≡ b) × Only b xs

-- the set is built from its batches, no batch is empty, and each view is a beginning of them, in this book
pub record Keeps (set : SetValue) (seen : SeenValue) (views : List ViewValue) : Type 0 where
  pub folded : set ≡ fold (joined_loads seen.batches)
  pub full : NoneEmpty seen.batches
  pub fits : version_of seen.batches < 2 ^ 64
  pub one_book : (seat : ℕ) (v : ViewValue) → get_elem? views seat ≡ some v → Only seen.book v.books
  pub begun : (seat : ℕ) (v : ViewValue) → get_elem? views seat ≡ some v → StartsWith seen.batches v.batches

-- what a reader finds out by entering
pub record Sees (v : ViewValue) (set : SetValue) (seen : SeenValue) (w : ViewValue) : Type 0 where
  pub folded : set ≡ fold (joined_loads seen.batches)
  pub full : NoneEmpty seen.batches
  pub fits : version_of seen.batches < 2 ^ 64
  pub later : StartsWith seen.batches v.batches
  pub book : Only seen.book v.books
  pub known : w ≡ record { books = seen.book ∷ []; batches = seen.batches }
