-- Format items of .NET's composite formats, and what stands between them (GNU gettext manual, "C# Format Strings";
-- Microsoft, "Composite formatting").
pub use Rattle.byte_text.specs.Characters.{open_brace, close_brace, comma, colon}
use Rattle.std.specs.Prelude.{ℕ, Bool, not, ◌==◌, if◌then◌else◌, List, [], ◌∷◌, Option, None, Some}
use Rattle.std.specs.Char.{is_ascii_digit}
use Rattle.format_arguments.specs.Bytes.{run, behind, behind_one}
use Rattle.numbered_arguments.specs.NumberedArguments.{number_of}

-- ---- the parts of an item: each says what follows it; None: the text doesn't begin with it

-- one digit, or more
abbrev pub behind_digits : List ℕ → Option (List ℕ)
behind_digits [] = None
behind_digits (b ∷ more) = if is_ascii_digit b then Some (behind is_ascii_digit more) else None

abbrev pub is_minus : ℕ → Bool
is_minus b = b == 45

-- ",alignment", which may be left out: an integer, maybe with a minus
abbrev pub behind_alignment : List ℕ → Option (List ℕ)
behind_alignment [] = Some []
behind_alignment (b ∷ more) = if b == comma then behind_digits (behind_one is_minus more) else Some (b ∷ more)

abbrev pub is_inner : ℕ → Bool
is_inner b = not (b == close_brace)

-- ":formatString", which may be left out: it goes up to the next closing brace
abbrev pub behind_format : List ℕ → List ℕ
behind_format [] = []
behind_format (b ∷ more) = if b == colon then behind is_inner more else b ∷ more

abbrev pub behind_brace : List ℕ → Option (List ℕ)
behind_brace [] = None
behind_brace (b ∷ more) = if b == close_brace then Some more else None

-- ---- items

abbrev pub with_alignment : Option (List ℕ) → Option (List ℕ)
with_alignment None = None
with_alignment (Some text) = behind_alignment text

abbrev pub with_brace : Option (List ℕ) → Option (List ℕ)
with_brace None = None
with_brace (Some text) = behind_brace (behind_format text)

abbrev pub with_number : ℕ → Option (List ℕ) → Option (ℕ × List ℕ)
with_number number None = None
with_number number (Some rest) = Some (number, rest)

-- behind an opening brace: "index", ",alignment", ":formatString" and a closing brace; it is the index, which is an
-- argument's number, and what follows
abbrev pub item : List ℕ → Option (ℕ × List ℕ)
item text = with_number (number_of (run is_ascii_digit text)) (with_brace (with_alignment (behind_digits text)))

-- ---- pieces of a text

abbrev pub item_piece : Option (ℕ × List ℕ) → Option (Option ℕ × List ℕ)
item_piece None = None
item_piece (Some found) = Some (Some found.0, found.1)

-- behind an opening brace: a second one, or an item
abbrev pub behind_opening : List ℕ → Option (Option ℕ × List ℕ)
behind_opening [] = None
behind_opening (b ∷ more) = if b == open_brace then Some (None, more) else item_piece (item (b ∷ more))

-- behind a closing brace: a second one
abbrev pub behind_closing : List ℕ → Option (Option ℕ × List ℕ)
behind_closing [] = None
behind_closing (b ∷ more) = if b == close_brace then Some (None, more) else None

-- what a text begins with: an item, with the number of its argument; or a byte or two braces, which ask for nothing
abbrev pub piece : List ℕ → Option (Option ℕ × List ℕ)
piece [] = None
piece (b ∷ more) =
    if b == open_brace then behind_opening more else if b == close_brace then behind_closing more else Some (None, more)
