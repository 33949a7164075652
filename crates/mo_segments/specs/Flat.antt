-- The flat file of messages: the MO file of revision 0 with the same messages.
use Rattle.std.specs.Prelude.{◌≡◌, ℕ, List, length, map, Option}
use Rattle.std.specs.List.{find}
use Rattle.std.specs.List.Sorted.{IsStrictlySortedBy}
use Rattle.std.specs.Ordering.{nat_cmp}
use Rattle.std.specs.Cmp.Lexicographic.{slice_cmp}
use Rattle.std.specs.Str.{bytes_eq}
use Rattle.mo_image.specs.MoFile.{file}
use Rattle.mo_image.specs.Pairs.{key_part as before_nul}
use Rattle.mo_segments.specs.MessageStrings.{Strings}

-- the key of a message: its original up to the first NUL
abbrev pub key_of : Strings → List ℕ
key_of message = before_nul message.0

-- the first message with this key, if there is one
abbrev pub first_of : List Strings → List ℕ → Option Strings
first_of messages key = find (λ m. bytes_eq key (key_of m)) messages

-- of messages, the first of each key is kept, in rising order of the keys' bytes
pub record AreKept (messages kept : List Strings) : Type 0 where
  pub rise : IsStrictlySortedBy (slice_cmp nat_cmp) (map key_of kept)
  pub first : (key : List ℕ) → first_of kept key ≡ first_of messages key

-- the file of revision 0 with these messages
abbrev pub flat_file : List Strings → List ℕ
flat_file messages = file (length messages) (map (λ m. m.0) messages) (map (λ m. m.1) messages)
