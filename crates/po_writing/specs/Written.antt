-- The PO text that is written of a catalogue, in the layout of GNU msgunfmt with `--no-wrap` (GNU gettext manual, "PO
-- Files"; "msgunfmt Invocation").
use Rattle.std.specs.Prelude.{ℕ, ◌+◌, ◌/◌, ◌%◌, Bool, not, ◌&&◌, ◌==◌, nat_le, if◌then◌else◌, List, [], ◌∷◌, ◌++◌}
use Rattle.std.specs.Prelude.{Option, Some, None, codes}
use Rattle.std.specs.List.{flat_map, onto_first}
use Rattle.std.specs.Fmt.{decimal}
use Rattle.message.specs.Message.{Entry, first_form}
use Rattle.po_text.specs.Spelling.{line_feed, quote, backslash}

-- ---- strings

-- the letter that follows the backslash for this byte: a b t n v f r, a quote and a backslash (C standard, 6.4.4.4)
abbrev pub letter_of : ℕ → Option ℕ
letter_of b =
    if b == 7 then Some 97 else
    if b == 8 then Some 98 else
    if b == 9 then Some 116 else
    if b == line_feed then Some 110 else
    if b == 11 then Some 118 else
    if b == 12 then Some 102 else
    if b == 13 then Some 114 else
    if b == quote then Some quote else
    if b == backslash then Some backslash else None

-- the three octal digits of a byte
abbrev pub octal : ℕ → List ℕ
octal b = (48 + b / 64) ∷ (48 + b / 8 % 8) ∷ (48 + b % 8) ∷ []

-- from the space to `~`
abbrev pub is_printable : ℕ → Bool
is_printable b = nat_le 32 b && nat_le b 126

-- a byte that has no letter: three octal digits if it is to be escaped and isn't printable, else itself
abbrev pub without_letter : Bool → ℕ → List ℕ
without_letter escape b = if escape && not (is_printable b) then backslash ∷ octal b else b ∷ []

-- a backslash and the letter, if there is one, or else the other spelling
abbrev pub by_letter : Option ℕ → List ℕ → List ℕ
by_letter None other = other
by_letter (Some letter) other = backslash ∷ letter ∷ []

-- a byte between the quotes of a string (C standard, 6.4.5); `escape` is msgunfmt's option `--escape`
abbrev pub written_byte : Bool → ℕ → List ℕ
written_byte escape b = by_letter (letter_of b) (without_letter escape b)

-- what stands between the quotes
abbrev pub written_bytes : Bool → List ℕ → List ℕ
written_bytes escape bytes = flat_map (written_byte escape) bytes

-- a part of a string in quotes, which ends its line
abbrev pub literal : Bool → List ℕ → List ℕ
literal escape part = quote ∷ (written_bytes escape part ++ (quote ∷ line_feed ∷ []))

-- the lines of a text, each with the LF that ends it; only the last may lack it
abbrev pub lines_of : List ℕ → List (List ℕ)
lines_of [] = []
lines_of (b ∷ more) = if b == line_feed then (b ∷ []) ∷ lines_of more else onto_first b (lines_of more)

-- the parts of a string, by its lines: a text of one line is one part; else an empty part comes first
abbrev pub parts_by_lines : List (List ℕ) → List (List ℕ)
parts_by_lines [] = [] ∷ []
parts_by_lines (line ∷ []) = line ∷ []
parts_by_lines (line ∷ next ∷ more) = [] ∷ line ∷ next ∷ more

-- the parts that a string is written in, each on a line of its own
abbrev pub parts_of : List ℕ → List (List ℕ)
parts_of text = parts_by_lines (lines_of text)

-- the space
abbrev pub space : ℕ
space = 32

-- a keyword, a space and a string
abbrev pub written_string : Bool → List ℕ → List ℕ → List ℕ
written_string escape keyword text = keyword ++ (space ∷ flat_map (literal escape) (parts_of text))

-- ---- entries

-- `msgctxt` and the context, if there is one
abbrev pub written_context : Bool → Option (List ℕ) → List ℕ
written_context escape None = []
written_context escape (Some context) = written_string escape (codes "msgctxt") context

-- `msgstr[k]`
abbrev pub indexed_keyword : ℕ → List ℕ
indexed_keyword k = codes "msgstr[" ++ (decimal k ++ codes "]")

-- the plural forms, numbered from k
abbrev pub written_forms : Bool → ℕ → List (List ℕ) → List ℕ
written_forms escape k [] = []
written_forms escape k (form ∷ more) = written_string escape (indexed_keyword k) form
    ++ written_forms escape (k + 1) more

-- the translation of a message without a plural, or the plural and its forms
abbrev pub written_translation : Bool → Option (List ℕ) → List (List ℕ) → List ℕ
written_translation escape None forms = written_string escape (codes "msgstr") (first_form forms)
written_translation escape (Some plural) forms =
    written_string escape (codes "msgid_plural") plural ++ written_forms escape 0 forms

-- the context, the msgid and the translation
abbrev pub written_entry : Bool → Entry → List ℕ
written_entry escape e = written_context escape e.context
    ++ (written_string escape (codes "msgid") e.id ++ written_translation escape e.plural e.forms)

-- the entries in their order, with an empty line before each but the first
abbrev pub po_of : Bool → List Entry → List ℕ
po_of escape [] = []
po_of escape (e ∷ more) = written_entry escape e ++ flat_map (λ f. line_feed ∷ written_entry escape f) more
