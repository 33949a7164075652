-- Parameters of directives (Common Lisp HyperSpec, section 22.3; GNU Guile, "Formatted Output").
pub use Rattle.byte_text.specs.Characters.{comma}
use Rattle.std.specs.Prelude.{◌≡◌, ℕ, Bool, ◌||◌, ◌==◌, if◌then◌else◌, List, [], ◌∷◌, Option, None, Some}
use Rattle.std.specs.Char.{is_ascii_digit}
use Rattle.format_arguments.specs.Bytes.{behind, BeginsNot}
use Rattle.lisp_formats.specs.declared.parameters.Parameter.{Parameter}
use Rattle.lisp_formats.specs.declared.parameters.Parameter.TheVariants.{Absent, Number, Character, Variable}

abbrev pub is_sign : ℕ → Bool
is_sign b = b == 43 || b == 45

abbrev pub is_quote : ℕ → Bool
is_quote b = b == 39

abbrev pub is_variable : ℕ → Bool
is_variable b = b == 118 || b == 86

abbrev pub is_hash : ℕ → Bool
is_hash b = b == 35

-- behind a sign: one digit, or more
abbrev pub behind_sign : List ℕ → Option (Parameter × List ℕ)
behind_sign [] = None
behind_sign (b ∷ more) = if is_ascii_digit b then Some (Number, behind is_ascii_digit more) else None

-- behind a quote: one byte
abbrev pub behind_quote : List ℕ → Option (Parameter × List ℕ)
behind_quote [] = None
behind_quote (b ∷ more) = Some (Character, more)

-- the parameter that a text begins with, and what follows it; None: there is a sign without a digit, or a quote alone
abbrev pub parameter : List ℕ → Option (Parameter × List ℕ)
parameter [] = Some (Absent, [])
parameter (b ∷ more) =
    if is_ascii_digit b then Some (Number, behind is_ascii_digit more)
    else if is_sign b then behind_sign more
    else if is_quote b then behind_quote more
    else if is_variable b then Some (Variable, more)
    else if is_hash b then Some (Number, more)
    else Some (Absent, b ∷ more)

-- the text is these parameters, with commas between them, followed by rest
abbrev pub AreParameters : List Parameter → List ℕ → List ℕ → Type 0
AreParameters [] text rest = ⊥
AreParameters (p ∷ []) text rest = (parameter text ≡ Some (p, rest)) × BeginsNot comma rest
AreParameters (p ∷ q ∷ more) text rest =
    (after : List ℕ) × (parameter text ≡ Some (p, comma ∷ after)) × AreParameters (q ∷ more) after rest
