-- The place of a catalogue in a set, which is the index of its load there, and the places that a list of languages
-- names.
use Rattle.std.specs.Prelude.{◌≡◌, ℕ, ◌<◌, ◌≤◌, List, length, map, take, slice_get, Some, find, filter_map}
use Rattle.catalogue.specs.Entry.{Entry}
use Rattle.live_set.specs.Asks.{first_with, map_with}
use Rattle.live_set.specs.LanguageList.{named_locales}
use Rattle.live_set.specs.Loads.{LoadValue, is_for, map_or_empty}
use Rattle.live_set.specs.Sets.{map_in}
use Rattle.live_set.specs.declared.places.Places.{Places}

-- the most places that a list has
abbrev pub most_places : ℕ
most_places = 16

-- every place is below this
abbrev pub place_limit : ℕ
place_limit = 4294967296

-- the map at a place, or the empty map
abbrev pub map_at : List LoadValue → ℕ → List Entry
map_at held place = map_or_empty (slice_get held place)

-- the map that answers a key: the first one at these places that has it, or the empty map
abbrev pub map_among : List LoadValue → List ℕ → List ℕ → List Entry
map_among held places key = first_with key (map (map_at held) places)

-- the loads of these locales, of those that there are
abbrev pub loads_of : List LoadValue → List ℕ → List (List ℕ) → List LoadValue
loads_of held domain locales = filter_map (λ locale. find (is_for domain locale) held) locales

-- the loads that a list of languages names, of those that there are
abbrev pub loads_named : List LoadValue → List ℕ → List ℕ → List LoadValue
loads_named held domain languages = loads_of held domain (named_locales languages)

-- the places that are listed
abbrev pub listed_places : Places → List ℕ
listed_places places = take places.count places.places

-- the places of all loads that a list of languages names, in its order, so that they answer each key as the list does;
-- a larger count than `most_places` says that there are more loads, or that a place would be too large
pub record IsListed (held : List LoadValue) (domain languages : List ℕ) (places : Places) : Type 0 where
  pub loads : places.count ≤ most_places
      → map (slice_get held) (listed_places places) ≡ map (λ load. Some load) (loads_named held domain languages)
  pub answers : places.count ≤ most_places → (key : List ℕ)
      → map_among held (listed_places places) key ≡ map_with (map_in held) domain languages key
  pub more : most_places < places.count → length held ≤ place_limit
      → most_places < length (loads_named held domain languages)
