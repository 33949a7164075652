-- Private: the place that is found for a domain and a locale, and places added to a list, one locale after another.
use Rattle.std.specs.Prelude.{◌≡◌, ◌⊎◌, ℕ, ◌+◌, ◌<◌, ◌≤◌, List, [], ◌∷◌, ◌++◌, length, map, slice_get, Some, find}
use Rattle.std.specs.Prelude.{is_some, true}
use Rattle.live_set.specs.Loads.{LoadValue, is_for}
use Rattle.live_set.specs.SetPlaces.{most_places, place_limit, loads_of, listed_places}
use Rattle.live_set.specs.declared.places.Places.{Places}

-- the load for the domain and the locale is at this place, unless its place is 2 ^ 64 - 1 or more
pub record IsPlaceFor (held : List LoadValue) (domain locale : List ℕ) (place : ℕ) : Type 0 where
  pub inside : place < length held
  pub some : is_some (find (is_for domain locale) held) ≡ true
  pub at : place < 18446744073709551615 → slice_get held place ≡ find (is_for domain locale) held

-- the place was added, unless there was no room or it is too large
pub record IsPushed (place : ℕ) (old new : Places) : Type 0 where
  pub count : new.count ≤ most_places → new.count ≡ old.count + 1
  pub fits : new.count ≤ most_places → place < place_limit
  pub places : new.count ≤ most_places → listed_places new ≡ listed_places old ++ place ∷ []
  pub more : most_places < new.count → (most_places ≤ old.count) ⊎ (place_limit ≤ place)

-- the places of these locales were added
pub record IsExtended (held : List LoadValue) (domain : List ℕ) (locales : List (List ℕ)) (old new : Places)
    : Type 0 where
  pub count : new.count ≤ most_places → new.count ≡ old.count + length (loads_of held domain locales)
  pub loads : new.count ≤ most_places → map (slice_get held) (listed_places new)
      ≡ map (slice_get held) (listed_places old) ++ map (λ load. Some load) (loads_of held domain locales)
  pub more : most_places < new.count → length held ≤ place_limit
      → most_places < old.count + length (loads_of held domain locales)
