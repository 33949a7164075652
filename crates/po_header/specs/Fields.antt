-- The fields of a header (GNU gettext manual, "Header Entry").
use Rattle.std.specs.Prelude.{ℕ, ◌+◌, Bool, ◌==◌, nat_eq, if◌then◌else◌, List, []}
use Rattle.std.specs.Prelude.{◌∷◌, ◌++◌, length, map, drop, is_none, Option, None, Some, codes}
use Rattle.std.specs.List.{find, slice_split, starts_with}
use Rattle.std.specs.Option.{option_map}
use Rattle.po_header.specs.Tokens.{behind_blanks}

-- LF separates lines
abbrev pub is_line_end : ℕ → Bool
is_line_end b = b == 10

abbrev pub lines : List ℕ → List (List ℕ)
lines text = slice_split is_line_end text

-- whether the line begins with the name and `:`
abbrev pub has_name : List ℕ → List ℕ → Bool
has_name name line = starts_with nat_eq line (name ++ (58 ∷ []))

-- what follows the name and `:`, without leading spaces and tabs
abbrev pub value_of : List ℕ → List ℕ → List ℕ
value_of name line = behind_blanks (drop (length name + 1) line)

-- the value of the first line that has the name, if one has
abbrev pub field_value : List ℕ → List ℕ → Option (List ℕ)
field_value text name = option_map (value_of name) (find (has_name name) (lines text))

-- the value of one line, if it has the name
abbrev pub line_value : List ℕ → List ℕ → Option (List ℕ)
line_value name line = if has_name name line then Some (value_of name line) else None

-- the names of the fields that a header is expected to have, in their order (our choice)
abbrev pub expected_names : List (List ℕ)
expected_names = codes "Project-Id-Version" ∷ codes "PO-Revision-Date" ∷ codes "Last-Translator"
    ∷ codes "Language-Team" ∷ codes "MIME-Version" ∷ codes "Content-Type" ∷ codes "Content-Transfer-Encoding"
    ∷ codes "Language" ∷ []

-- which of these fields the text lacks
abbrev pub missing : List ℕ → List Bool
missing text = map (λ name. is_none (field_value text name)) expected_names
