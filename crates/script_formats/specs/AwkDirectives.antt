-- Directives of awk's `printf`, from behind the `%` (GNU gettext manual, "awk Format Strings"; POSIX, "awk", "Output
-- Statements"; GNU awk's manual: "Format-Control Letters", "Format Modifiers").
use Rattle.std.specs.Prelude.{ℕ, ◌==◌, if◌then◌else◌, List, [], ◌∷◌, Option, None, Some, codes}
use Rattle.std.specs.List.{list_any}
use Rattle.std.specs.Char.{is_ascii_digit}
use Rattle.format_arguments.specs.Bytes.{behind}
use Rattle.numbered_arguments.specs.declared.Kind.{Kind}
use Rattle.numbered_arguments.specs.declared.Kind.TheVariants.{Character, Text, Integer, Unsigned, Float}
use Rattle.numbered_arguments.specs.declared.Size.TheVariants.{Plain}
use Rattle.numbered_arguments.specs.declared.Request.{Request}
use Rattle.script_formats.specs.declared.directive.Directive.{Directive}
use Rattle.script_formats.specs.ScriptParts.{argument, printing_directive, index_at, is_flag}

-- ---- "minimum width" and "precision"

abbrev pub star_of : Option (Option ℕ × List ℕ) → Option (Option Request × List ℕ)
star_of None = None
star_of (Some found) = Some (argument found.0 (Some (Integer Plain)), found.1)

-- `*`, `*m$` or digits, or nothing; None: m is 0
abbrev pub amount : List ℕ → Option (Option Request × List ℕ)
amount [] = Some (None, [])
amount (b ∷ more) = if b == 42 then star_of (index_at more) else Some (None, behind is_ascii_digit (b ∷ more))

abbrev pub precision : List ℕ → Option (Option Request × List ℕ)
precision [] = Some (None, [])
precision (b ∷ more) = if b == 46 then amount more else Some (None, b ∷ more)

-- ---- conversions

-- what a conversion asks for; None: there is no such conversion
abbrev pub asked_by : ℕ → Option (Option Kind)
asked_by conversion =
    if conversion == 37 then Some None
    else if conversion == 99 then Some (Some Character)
    else if conversion == 115 then Some (Some Text)
    else if list_any (λ letter. conversion == letter) (codes "di") then Some (Some (Integer Plain))
    else if list_any (λ letter. conversion == letter) (codes "uoxX") then Some (Some (Unsigned Plain))
    else if list_any (λ letter. conversion == letter) (codes "eEfgG") then Some (Some (Float Plain))
    else None

-- ---- directives

abbrev pub made_if : Option ℕ → Option Request → Option Request → List ℕ → Option (Option Kind)
    → Option (Directive × List ℕ)
made_if number width precision rest None = None
made_if number width precision rest (Some kind) = Some (printing_directive width precision (argument number kind), rest)

abbrev pub conversion_at : Option ℕ → Option Request → Option Request → List ℕ → Option (Directive × List ℕ)
conversion_at number width precision [] = None
conversion_at number width precision (b ∷ more) = made_if number width precision more (asked_by b)

abbrev pub behind_precision : Option ℕ → Option Request → Option (Option Request × List ℕ)
    → Option (Directive × List ℕ)
behind_precision number width None = None
behind_precision number width (Some found) = conversion_at number width found.0 found.1

abbrev pub behind_width : Option ℕ → Option (Option Request × List ℕ) → Option (Directive × List ℕ)
behind_width number None = None
behind_width number (Some found) = behind_precision number found.0 (precision found.1)

abbrev pub with_number : Option (Option ℕ × List ℕ) → Option (Directive × List ℕ)
with_number None = None
with_number (Some found) = behind_width found.0 (amount (behind is_flag found.1))

-- what the directive asks for, and what follows
abbrev pub directive : List ℕ → Option (Directive × List ℕ)
directive text = with_number (index_at text)
