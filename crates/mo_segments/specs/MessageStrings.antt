-- Messages as the strings that an MO file has of them.
use Rattle.std.specs.Prelude.{ℕ, List, map}
use Rattle.mo_segments.specs.declared.messages.Strings.{Strings as Held}

-- an original and its translation
abbrev pub Strings : Type 0
Strings = List ℕ × List ℕ

abbrev pub strings_in : Held → Strings
strings_in s = (s.original.items, s.translation.items)

abbrev pub strings_of : List Held → List Strings
strings_of messages = map strings_in messages
