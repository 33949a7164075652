-- Format specifiers, which stand behind a field's colon (PEP 3101, "Standard Format Specifiers").
pub use Rattle.byte_text.specs.Characters.{open_brace, close_brace, colon}
use Rattle.std.specs.Prelude.{◌≡◌, ℕ, Bool, ◌==◌, ◌⊎◌, if◌then◌else◌, List, [], ◌∷◌, codes}
use Rattle.std.specs.List.{list_any}
use Rattle.std.specs.Char.{is_ascii_digit}
use Rattle.format_arguments.specs.Bytes.{behind, behind_one, BeginsNot}
use Rattle.python_brace_format.specs.BraceFields.{dot, FieldAt}

-- ---- a standard format specifier

abbrev pub is_align : ℕ → Bool
is_align b = list_any (λ align. b == align) (codes "<>=^")

abbrev pub is_sign : ℕ → Bool
is_sign b = list_any (λ sign. b == sign) (codes "+- ")

abbrev pub is_hash : ℕ → Bool
is_hash b = b == 35

abbrev pub is_type : ℕ → Bool
is_type b = list_any (λ letter. b == letter) (codes "bcdoxXneEfFgG%")

-- what follows an alignment, or any byte and an alignment, which may be left out
abbrev pub behind_filled_align : List ℕ → List ℕ
behind_filled_align [] = []
behind_filled_align (first ∷ []) = behind_one is_align (first ∷ [])
behind_filled_align (first ∷ (second ∷ more)) =
    if is_align second then more else behind_one is_align (first ∷ (second ∷ more))

-- what follows a dot and digits, which may be left out
abbrev pub behind_precision : List ℕ → List ℕ
behind_precision [] = []
behind_precision (b ∷ more) = if b == dot then behind is_ascii_digit more else b ∷ more

-- what follows an alignment, a sign, `#`, digits, a precision and a type, each of which may be left out
abbrev pub behind_standard : List ℕ → List ℕ
behind_standard text = behind_one is_type (behind_precision (behind is_ascii_digit (behind_one is_hash
    (behind_one is_sign (behind_filled_align text)))))

-- ---- what stands behind a field

-- text is another opening brace, or a field and its closing brace, followed by rest
abbrev pub NestedAt : List ℕ → List ℕ → Type 0
NestedAt text rest = (text ≡ open_brace ∷ rest) ⊎ FieldAt text (close_brace ∷ rest)

-- text is an opening brace and a nested field, or a standard format specifier, followed by rest
abbrev pub SpecifierAt : List ℕ → List ℕ → Type 0
SpecifierAt text rest = ((inner : List ℕ) × (text ≡ open_brace ∷ inner) × NestedAt inner rest)
    ⊎ (BeginsNot open_brace text × (rest ≡ behind_standard text))

-- text is a colon and a format specifier, or has none, followed by rest
abbrev pub FormatAt : List ℕ → List ℕ → Type 0
FormatAt text rest = ((after : List ℕ) × (text ≡ colon ∷ after) × SpecifierAt after rest)
    ⊎ (BeginsNot colon text × (rest ≡ text))
