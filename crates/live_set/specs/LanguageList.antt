-- Lists of languages, and the locales that they name (GNU gettext manual, "The LANGUAGE variable"; "Locale Names").
use Rattle.std.specs.Prelude.{ℕ, ◌==◌, ◌&&◌, ◌||◌, not, Bool, true, false, if◌then◌else◌, List, [], ◌∷◌, codes, filter}
use Rattle.std.specs.Prelude.{take_while, flat_map}
use Rattle.std.specs.List.{list_any, before_first, slice_split}
use Rattle.std.specs.Str.{bytes_eq}

-- `:` separates the members of a list
abbrev pub is_colon : ℕ → Bool
is_colon b = b == 58

-- an empty member names nothing and is skipped
abbrev pub is_text : List ℕ → Bool
is_text [] = false
is_text (b ∷ bs) = true

-- whether a locale translates: all but `C` and `POSIX`, which end a list
abbrev pub translates : List ℕ → Bool
translates locale = not (bytes_eq locale (codes "C") || bytes_eq locale (codes "POSIX"))

-- the members that count
abbrev pub members : List ℕ → List (List ℕ)
members languages = take_while translates (filter is_text (slice_split is_colon languages))

-- `_` precedes a locale's territory
abbrev pub is_underscore : ℕ → Bool
is_underscore b = b == 95

-- `.` precedes a locale's codeset, `@` its variant
abbrev pub begins_detail : ℕ → Bool
begins_detail b = b == 46 || b == 64

-- `ll_CC`: a language and a territory, with no codeset and no variant
abbrev pub has_only_territory : List ℕ → Bool
has_only_territory member = list_any is_underscore member && not (list_any begins_detail member)

-- the language `ll`, which is tried after `ll_CC`
abbrev pub language_behind : List ℕ → List (List ℕ)
language_behind member = if has_only_territory member then before_first is_underscore member ∷ [] else []

-- the locales that a member stands for: itself, and that language
abbrev pub locales_of : List ℕ → List (List ℕ)
locales_of member = member ∷ language_behind member

-- the locales that a list names, in the order in which they are tried
abbrev pub named_locales : List ℕ → List (List ℕ)
named_locales languages = flat_map locales_of (members languages)
