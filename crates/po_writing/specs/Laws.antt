-- What a written PO text means (GNU gettext manual, "PO Files").
use Rattle.std.specs.Prelude.{◌≡◌, ℕ, Bool, false, not, List, map}
use Rattle.std.specs.List.{AllByRecursion, filter}
use Rattle.format_flags.specs.FormatFlags.{no_flags}
use Rattle.po_text.specs.Entries as po
use Rattle.po_text.specs.Outcome.{Gives}
use Rattle.message.specs.Message.{Entry}
use Rattle.po_checks.specs.Kept.{has_empty_form}
use Rattle.catalogue.specs.Meaning.{message_of}

-- an entry without flags
pub record HasNoFlag (e : po.Entry) : Type 0 where
  pub not_fuzzy : e.fuzzy ≡ false
  pub no_format : e.c_format ≡ false
  pub no_formats : e.formats ≡ no_flags

-- the text can be read, and gives exactly the entries of the map, in their order and without flags
pub record Tells (text : List ℕ) (m : List Entry) : Type 0 where
  pub entries : List po.Entry
  pub gives : Gives text entries
  pub messages_are : map message_of entries ≡ m
  pub no_flags : AllByRecursion HasNoFlag entries

-- an entry whose first form isn't empty
abbrev pub is_translated : Entry → Bool
is_translated e = not (has_empty_form e.forms)

-- the entries that a compiler keeps of a map
abbrev pub translated_entries : List Entry → List Entry
translated_entries m = filter is_translated m
