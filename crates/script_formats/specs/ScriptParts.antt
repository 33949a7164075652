-- The parts of directives that languages share.
pub use Rattle.byte_text.specs.Characters.{dollar}
use Rattle.std.specs.Prelude.{ℕ, ◌+◌, ◌^◌, ◌%◌, Bool, ◌==◌, if◌then◌else◌, List, [], ◌∷◌, Option, None, Some, codes}
use Rattle.std.specs.List.{list_any}
use Rattle.std.specs.Char.{is_ascii_digit}
use Rattle.format_arguments.specs.Bytes.{run, behind}
use Rattle.numbered_arguments.specs.declared.Kind.{Kind}
use Rattle.numbered_arguments.specs.declared.Kind.TheVariants.{Integer}
use Rattle.numbered_arguments.specs.declared.Size.TheVariants.{Plain}
use Rattle.numbered_arguments.specs.declared.Request.{Request}
use Rattle.numbered_arguments.specs.NumberedArguments.{number_of}
use Rattle.script_formats.specs.declared.directive.Directive.{Directive}

-- ---- what a directive asks for

-- an argument of this kind, if there is one
abbrev pub argument : Option ℕ → Option Kind → Option Request
argument number None = None
argument number (Some kind) = Some (record { number = number; kind = kind })

-- a width, a precision and what the conversion asks for
abbrev pub printing_directive : Option Request → Option Request → Option Request → Directive
printing_directive width precision asked = record {
  index = None;
  separator = None;
  vector = None;
  width = width;
  precision = precision;
  argument = asked;
}

-- ---- `%%`

-- what follows the second `%`
abbrev pub behind_percent : List ℕ → Option (List ℕ)
behind_percent [] = None
behind_percent (b ∷ more) = if b == 37 then Some more else None

-- ---- "argument number"

-- behind a number: a `$`
abbrev pub dollar_at : ℕ → List ℕ → Option (ℕ × List ℕ)
dollar_at number [] = None
dollar_at number (b ∷ more) = if b == dollar then Some (number, more) else None

-- digits and a `$`: the number, and what follows
abbrev pub number_at : List ℕ → Option (ℕ × List ℕ)
number_at text = dollar_at (number_of (run is_ascii_digit text)) (behind is_ascii_digit text)

abbrev pub index_from : List ℕ → Option (ℕ × List ℕ) → Option (Option ℕ × List ℕ)
index_from text None = Some (None, text)
index_from text (Some found) = if found.0 == 0 then None else Some (Some found.0, found.1)

-- a number, which may be left out, and what follows it; None: the number is 0
abbrev pub index_at : List ℕ → Option (Option ℕ × List ℕ)
index_at text = index_from text (number_at text)

-- the number that follows; GNU gettext counts arguments modulo 2^32
abbrev pub following_number : ℕ → ℕ
following_number number = (number + 1) % 2 ^ 32

-- ---- "flags", "width" and "precision"

abbrev pub is_flag : ℕ → Bool
is_flag b = list_any (λ flag. b == flag) (codes " +-#0")

-- a star, which asks for an integer of this number, or digits, or nothing
abbrev pub amount : Option ℕ → List ℕ → Option Request × List ℕ
amount number [] = (None, [])
amount number (b ∷ more) =
    if b == 42 then (argument number (Some (Integer Plain)), more) else (None, behind is_ascii_digit (b ∷ more))

-- what follows a dot and digits, or nothing
abbrev pub behind_precision : List ℕ → List ℕ
behind_precision [] = []
behind_precision (b ∷ more) = if b == 46 then behind is_ascii_digit more else b ∷ more
