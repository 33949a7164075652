-- Loads, and the map that they give to a domain and a locale (GNU gettext manual, "Triggering"; "Locating
-- Catalogs").
use Rattle.std.specs.Prelude.{ℕ, ◌&&◌, Bool, List, [], Option, None}
use Rattle.std.specs.List.{filter, last_or}
use Rattle.std.specs.Option.{option_map_or}
use Rattle.std.specs.Str.{bytes_eq}
use Rattle.catalogue.specs.Entry.{Entry}

-- a map for a text domain and a locale (GNU gettext manual, "Triggering"; "Locating Catalogs")
pub record LoadValue : Type 0 where
  pub domain : List ℕ
  pub locale : List ℕ
  pub map : List Entry

-- the load is for the domain and the locale
abbrev pub is_for : List ℕ → List ℕ → LoadValue → Bool
is_for domain locale load = bytes_eq load.domain domain && bytes_eq load.locale locale

-- the map of a load, or the empty map if there is no load
abbrev pub map_or_empty : Option LoadValue → List Entry
map_or_empty load = option_map_or (λ l. l.map) load []

-- the map of the last load for the domain and the locale, or the empty map
abbrev pub map_of : List LoadValue → List ℕ → List ℕ → List Entry
map_of loads domain locale = map_or_empty (last_or None (filter (is_for domain locale) loads))
