-- Directives of librep's `format` (GNU gettext manual, "librep Format Strings"; librep's manual: "Formatted Output").
pub use Rattle.byte_text.specs.Characters.{percent}
use Rattle.std.specs.Prelude.{◌≡◌, ℕ, Bool, ◌==◌, if◌then◌else◌, List, [], ◌∷◌, Option, None, Some, codes}
use Rattle.std.specs.List.{list_any}
use Rattle.std.specs.Char.{is_ascii_digit}
use Rattle.format_arguments.specs.Bytes.{behind}
use Rattle.numbered_arguments.specs.declared.Kind.{Kind}
use Rattle.numbered_arguments.specs.declared.Kind.TheVariants.{Character, Text, Integer, Object}
use Rattle.numbered_arguments.specs.declared.Size.TheVariants.{Plain}
use Rattle.script_formats.specs.ScriptParts.{index_at, behind_precision}
use Rattle.librep_format.specs.declared.parts.Directive.{Directive}

abbrev pub is_flag : ℕ → Bool
is_flag b = list_any (λ flag. b == flag) (codes "-^0+ ")

-- ---- conversions

-- what a conversion asks for; None: there is no such conversion. `s` takes an object that it writes as text does, and
-- `S` one that it writes as code does: these are two kinds
abbrev pub asked_by : ℕ → Option (Option Kind)
asked_by conversion =
    if conversion == 37 then Some None
    else if conversion == 99 then Some (Some Character)
    else if list_any (λ letter. conversion == letter) (codes "dxXo") then Some (Some (Integer Plain))
    else if conversion == 115 then Some (Some Text)
    else if conversion == 83 then Some (Some Object)
    else None

-- ---- directives

abbrev pub made_if : Option ℕ → List ℕ → Option (Option Kind) → Option (Directive × List ℕ)
made_if number rest None = None
made_if number rest (Some kind) = Some (record { number = number; kind = kind }, rest)

abbrev pub behind_number : Option ℕ → List ℕ → Option (Directive × List ℕ)
behind_number number [] = None
behind_number number (b ∷ more) = made_if number more (asked_by b)

-- flags, a width, a precision and a conversion
abbrev pub back : Option ℕ → List ℕ → Option (Directive × List ℕ)
back number text = behind_number number (behind_precision (behind is_ascii_digit (behind is_flag text)))

abbrev pub back_of : Option (Option ℕ × List ℕ) → Option (Directive × List ℕ)
back_of None = None
back_of (Some found) = back found.0 found.1

-- what follows the `%`: the directive, and what follows it
abbrev pub directive : List ℕ → Option (Directive × List ℕ)
directive text = back_of (index_at text)

-- text is a `%` and this directive, followed by rest
abbrev pub DirectiveAt : Directive → List ℕ → List ℕ → Type 0
DirectiveAt d text rest = (inner : List ℕ) × (text ≡ percent ∷ inner) × (directive inner ≡ Some (d, rest))
