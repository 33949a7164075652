-- Field names of Python's brace formats, and what a field accesses (PEP 3101, "Format Strings"; GNU gettext manual,
-- "Python Format Strings").
pub use Rattle.byte_text.specs.Characters.{dot, open_bracket, close_bracket, underscore}
use Rattle.std.specs.Prelude.{◌≡◌, ℕ, zero, suc, Bool, ◌||◌, ◌==◌, if◌then◌else◌, List, [], ◌∷◌, Option, None, Some}
use Rattle.std.specs.Char.{is_ascii_alphabetic, is_ascii_alphanumeric, is_ascii_digit}
use Rattle.format_arguments.specs.Bytes.{behind}

-- ---- the special characters

-- ---- names and numbers

abbrev pub is_letter : ℕ → Bool
is_letter b = is_ascii_alphabetic b || b == underscore

abbrev pub is_word : ℕ → Bool
is_word b = is_ascii_alphanumeric b || b == underscore

-- what follows a name, if the text begins with one: a letter, and letters and digits as many as there are
abbrev pub behind_name : List ℕ → Option (List ℕ)
behind_name [] = None
behind_name (b ∷ more) = if is_letter b then Some (behind is_word more) else None

-- what follows a number, if the text begins with one
abbrev pub behind_number : List ℕ → Option (List ℕ)
behind_number [] = None
behind_number (b ∷ more) = if is_ascii_digit b then Some (behind is_ascii_digit more) else None

abbrev pub first_of : Option (List ℕ) → Option (List ℕ) → Option (List ℕ)
first_of (Some rest) other = Some rest
first_of None other = other

-- what follows a name or a number
abbrev pub behind_key : List ℕ → Option (List ℕ)
behind_key text = first_of (behind_name text) (behind_number text)

-- ---- what a field accesses

abbrev pub behind_closing : Option (List ℕ) → Option (List ℕ)
behind_closing None = None
behind_closing (Some []) = None
behind_closing (Some (b ∷ more)) = if b == close_bracket then Some more else None

-- what follows a key and the bracket that closes it
abbrev pub behind_element : List ℕ → Option (List ℕ)
behind_element text = behind_closing (behind_key text)

-- what follows an attribute, `.name`, or an element, `[name]` or `[number]`, if the text begins with one
abbrev pub behind_access : List ℕ → Option (List ℕ)
behind_access [] = None
behind_access (b ∷ more) =
    if b == dot then behind_name more else if b == open_bracket then behind_element more else None

-- text is n attributes and elements, followed by rest
abbrev pub Accesses : ℕ → List ℕ → List ℕ → Type 0
Accesses zero text rest = text ≡ rest
Accesses (suc n) text rest = (after : List ℕ) × (behind_access text ≡ Some after) × Accesses n after rest

-- text is attributes and elements, as many as there are, followed by rest
abbrev pub AccessesAt : List ℕ → List ℕ → Type 0
AccessesAt text rest = (n : ℕ) × Accesses n text rest × (behind_access rest ≡ None)

-- text is a name or a number and what it accesses, followed by rest
abbrev pub FieldAt : List ℕ → List ℕ → Type 0
FieldAt text rest = (behind_first : List ℕ) × (behind_key text ≡ Some behind_first) × AccessesAt behind_first rest
