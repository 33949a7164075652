-- What entries with strings of their own say.
use Rattle.std.specs.Prelude.{◌≡◌, ℕ, Bool, List, Option, map}
use Rattle.std.specs.Option.{option_map}
use Rattle.std.specs.String.{string_bytes}
use Rattle.po_text.specs.declared.entry.PoEntry.{PoEntry}
use Rattle.po_text.specs.Entries.{Entry}

-- what is kept of an entry: all but the line of its first form and the formats of other languages than C
pub record Content : Type 0 where
  pub line : ℕ
  pub fuzzy : Bool
  pub c_format : Bool
  pub context : Option (List ℕ)
  pub id : List ℕ
  pub plural : Option (List ℕ)
  pub forms : List (List ℕ)

abbrev pub content : Entry → Content
content e = record {
  line = e.line;
  fuzzy = e.fuzzy;
  c_format = e.c_format;
  context = e.context;
  id = e.id;
  plural = e.plural;
  forms = e.forms;
}

abbrev pub entry_view : PoEntry → Content
entry_view e = record {
  line = e.line;
  fuzzy = e.fuzzy;
  c_format = e.c_format;
  context = option_map (λ s. string_bytes s) e.context;
  id = string_bytes e.id;
  plural = option_map (λ s. string_bytes s) e.plural;
  forms = map (λ s. string_bytes s) e.forms.items;
}

-- the entries are copies of these
abbrev pub AreCopies : List PoEntry → List Entry → Type 0
AreCopies copies entries = map entry_view copies ≡ map content entries
