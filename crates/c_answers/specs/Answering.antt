-- The questions that C asks a catalogue that it holds, and their answers.
use Rattle.std.specs.Prelude.{ℕ, ◌==◌, ◌||◌, if◌then◌else◌, List, [], ◌∷◌, Bool, Option, Some, None}
use Rattle.std.specs.Option.{option_map_or}
use Rattle.std.specs.Arc.{arc_value}
use Rattle.mo_image.specs.Entry.{Entry, key_bytes}
use Rattle.mo_image.specs.Map.{entry_at}
use Rattle.catalogue.specs.Value.{IsTranslatedWithNul}
use Rattle.c_answers.specs.declared.opened.Opened.{Opened}
use Rattle.c_answers.specs.Numbers.{pgettext, ngettext, npgettext}

-- the map of what was opened, which is empty if it was refused
abbrev pub map_of : Opened → List Entry
map_of c = option_map_or (λ shared. arc_value shared) c.catalogue []

-- which of the four calls take a context
abbrev pub takes_context : ℕ → Bool
takes_context call = call == pgettext || call == npgettext

-- which take a number
abbrev pub takes_number : ℕ → Bool
takes_number call = call == ngettext || call == npgettext

abbrev pub context_of : ℕ → List ℕ → Option (List ℕ)
context_of call context = if takes_context call then Some context else None

abbrev pub number_of : ℕ → ℕ → Option ℕ
number_of call n = if takes_number call then Some n else None

-- a call with its strings and its number; it ignores those that it has no use for
pub record Question : Type 0 where
  pub call : ℕ
  pub context : List ℕ
  pub id : List ℕ
  pub n : ℕ

abbrev pub question : ℕ → List ℕ → List ℕ → ℕ → Question
question call context id n = record { call = call; context = context; id = id; n = n }

-- nothing for none
abbrev pub some_of : List ℕ → Option (List ℕ)
some_of [] = None
some_of (b ∷ bs) = Some (b ∷ bs)

-- the key that is looked up
abbrev pub key_of : Question → List ℕ
key_of q = key_bytes (context_of q.call q.context) q.id

-- the string of the entry that is looked up, with its terminating NUL, or no bytes if there is no such entry; bytes
-- that aren't UTF-8 are no entry's key
abbrev pub IsClosedAnswer : List Entry → Question → List ℕ → Type 0
IsClosedAnswer m q text = IsTranslatedWithNul m (entry_at m (key_of q)) (number_of q.call q.n) (some_of text)
