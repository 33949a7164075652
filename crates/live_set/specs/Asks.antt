-- Queries and their answers (GNU gettext manual, "Interface to gettext"; "Contexts"; "Plural forms").
use Rattle.std.specs.Prelude.{◌≡◌, ℕ, Bool, List, [], Some, None, is_some, map, find, length, slice_get}
use Rattle.std.specs.Option.{option_map_or}
use Rattle.std.specs.String.{string_bytes}
use Rattle.catalogue.specs.Entry.{Entry, key_bytes}
use Rattle.catalogue.specs.Map.{entry_at}
use Rattle.catalogue.specs.Value.{IsFirstForm, IsCounted, text_by}
use Rattle.live_set.specs.Loads.{LoadValue, map_of}
use Rattle.live_set.specs.LanguageList.{named_locales}
use Rattle.live_set.specs.declared.query.Ask.{Ask}
use Rattle.live_set.specs.declared.query.Ask.TheVariants as ask
use denote.Ref.{Bor}

-- a call of gettext, pgettext, ngettext or npgettext, with its arguments
pub data AskValue : Type 0 where
  Plain : (id : List ℕ) → AskValue
  Context : (context id : List ℕ) → AskValue
  Number : (id plural : List ℕ) (n : ℕ) → AskValue
  ContextNumber : (context id plural : List ℕ) (n : ℕ) → AskValue

-- a call in a domain and a list of languages
pub record QueryValue : Type 0 where
  pub domain : List ℕ
  pub languages : List ℕ
  pub ask : AskValue

-- a call in this domain and these languages
abbrev pub query_of : List ℕ → List ℕ → AskValue → QueryValue
query_of domain languages ask = record { domain = domain; languages = languages; ask = ask }

-- the answer of a map to a call
abbrev pub HasValue : List Entry → AskValue → List ℕ → Type 0
HasValue m (Plain id) text = IsFirstForm (entry_at m (key_bytes None id)) id text
HasValue m (Context context id) text = IsFirstForm (entry_at m (key_bytes (Some context) id)) id text
HasValue m (Number id plural n) text = IsCounted m (entry_at m (key_bytes None id)) n (text_by n id plural) text
HasValue m (ContextNumber context id plural n) text = IsCounted m (entry_at m (key_bytes (Some context) id)) n
    (text_by n id plural) text

-- the key that a call looks up
abbrev pub key_of : AskValue → List ℕ
key_of (Plain id) = key_bytes None id
key_of (Context context id) = key_bytes (Some context) id
key_of (Number id plural n) = key_bytes None id
key_of (ContextNumber context id plural n) = key_bytes (Some context) id

-- the map has an entry with this key
abbrev pub has_key : List ℕ → List Entry → Bool
has_key key m = is_some (entry_at m key)

-- the first of the maps that has the key, or the empty map
abbrev pub first_with : List ℕ → List (List Entry) → List Entry
first_with key maps = option_map_or (λ m. m) (find (has_key key) maps) []

-- the maps that a list of languages names in a domain, in order, given the map of each domain and locale
abbrev pub maps_named : (List ℕ → List ℕ → List Entry) → List ℕ → List ℕ → List (List Entry)
maps_named maps domain languages = map (maps domain) (named_locales languages)

-- the answer of some maps to a call: that of the first map that has its key, or without one of the empty map
abbrev pub HasFirstValue : List (List Entry) → AskValue → List ℕ → Type 0
HasFirstValue maps ask text = HasValue (first_with (key_of ask) maps) ask text

-- the map that answers a key in a domain and a list of languages, given the map of each domain and locale: that of the
-- first listed locale whose map has the key, or the empty map
abbrev pub map_with : (List ℕ → List ℕ → List Entry) → List ℕ → List ℕ → List ℕ → List Entry
map_with maps domain languages key = first_with key (map (maps domain) (named_locales languages))

-- the map that answers a query
abbrev pub answering_map : (List ℕ → List ℕ → List Entry) → QueryValue → List Entry
answering_map maps query = map_with maps query.domain query.languages (key_of query.ask)

-- the answer to a query over these maps
abbrev pub HasAnswer : (List ℕ → List ℕ → List Entry) → QueryValue → List ℕ → Type 0
HasAnswer maps query text = HasValue (answering_map maps query) query.ask text

-- the answer to a query after these loads
abbrev pub IsAnswer : List LoadValue → QueryValue → List ℕ → Type 0
IsAnswer loads query text = HasAnswer (map_of loads) query text

-- the answers to queries over these maps: as many, in the same order
pub record HaveAnswers (maps : List ℕ → List ℕ → List Entry) (queries : List QueryValue) (answers : List (Bor (List ℕ)))
    : Type 0 where
  pub count : length answers ≡ length queries
  pub each : (i : ℕ) (query : QueryValue) (text : Bor (List ℕ)) → slice_get queries i ≡ Some query
      → slice_get answers i ≡ Some text → HasAnswer maps query text.now

-- the answers to queries after these loads
abbrev pub AreAnswers : List LoadValue → List QueryValue → List (Bor (List ℕ)) → Type 0
AreAnswers loads queries answers = HaveAnswers (map_of loads) queries answers

-- a call by the bytes of its arguments
abbrev pub ask_value : Ask → AskValue
ask_value (ask.Plain id) = Plain (string_bytes id)
ask_value (ask.Context context id) = Context (string_bytes context) (string_bytes id)
ask_value (ask.Number id plural n) = Number (string_bytes id) (string_bytes plural) n
ask_value (ask.ContextNumber context id plural n) = ContextNumber (string_bytes context) (string_bytes id)
    (string_bytes plural) n
