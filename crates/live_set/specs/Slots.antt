-- Private: the loads that a set holds, in ascending order of locale and domain, and the slot of each.
use Rattle.std.specs.Prelude.{◌≡◌, ℕ, ◌<◌, ◌≤◌, Bool, List, [], ◌∷◌, ◌++◌, length, slice_index_or}
use Rattle.std.specs.List.{filter}
use Rattle.std.specs.List.Sorted.{IsStrictlySortedBy}
use Rattle.std.specs.declared.cmp.Ordering.{Ordering}
use Rattle.std.specs.declared.cmp.Ordering.TheVariants.{Less, Equal, Greater}
use Rattle.std.specs.Ordering.{ordering_then, is_lt, nat_cmp}
use Rattle.std.specs.Cmp.Lexicographic.{slice_cmp}
use Rattle.live_set.specs.Loads.{LoadValue}

-- by locale and then by domain, byte by byte
abbrev pub order_of : LoadValue → LoadValue → Ordering
order_of a b = ordering_then (slice_cmp nat_cmp a.locale b.locale) (slice_cmp nat_cmp a.domain b.domain)

-- the first load precedes the second
abbrev pub is_before : LoadValue → LoadValue → Bool
is_before a b = is_lt (order_of a b)

-- each load precedes those after it
abbrev pub Rises : List LoadValue → Type 0
Rises held = IsStrictlySortedBy order_of held

-- the loads with this one in its slot, and no other one for its domain and locale
abbrev pub with_slot : List LoadValue → LoadValue → List LoadValue
with_slot held load = filter (λ l. is_before l load) held ++ load ∷ filter (λ l. is_before load l) held

-- a load for the domain and the locale, for comparison with others
abbrev pub probe : List ℕ → List ℕ → LoadValue
probe domain locale = record { domain = domain; locale = locale; map = [] }

-- the load in slot i is for the domain and the locale
pub record IsAt (held : List LoadValue) (domain locale : List ℕ) (i : ℕ) : Type 0 where
  pub in_range : i < length held
  pub tied : (d : LoadValue) → order_of (slice_index_or held i d) (probe domain locale) ≡ Equal

-- slot i is where a load for them would be inserted: those before it precede it, the others follow it
pub record IsGapFor (held : List LoadValue) (domain locale : List ℕ) (i : ℕ) : Type 0 where
  pub in_range : i ≤ length held
  pub below : (k : ℕ) (d : LoadValue) → k < i → order_of (slice_index_or held k d) (probe domain locale) ≡ Less
  pub above : (k : ℕ) (d : LoadValue) → i ≤ k → k < length held
      → order_of (slice_index_or held k d) (probe domain locale) ≡ Greater
