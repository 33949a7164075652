-- Directives of JavaScript's formats, from behind the `%` (GNU gettext manual, "JavaScript Format Strings"; GNOME's
-- reference of GJS, "Format").
use Rattle.std.specs.Prelude.{ℕ, Bool, ◌==◌, if◌then◌else◌, List, [], ◌∷◌, Option, None, Some, codes}
use Rattle.std.specs.List.{list_any}
use Rattle.std.specs.Char.{is_ascii_digit}
use Rattle.format_arguments.specs.Bytes.{behind}
use Rattle.numbered_arguments.specs.declared.Kind.{Kind}
use Rattle.numbered_arguments.specs.declared.Kind.TheVariants.{Any, Character, Text, Integer, Float}
use Rattle.numbered_arguments.specs.declared.Size.TheVariants.{Plain}
use Rattle.script_formats.specs.declared.directive.Directive.{Directive}
use Rattle.script_formats.specs.ScriptParts.{argument, printing_directive, index_at, behind_precision}

abbrev pub is_flag : ℕ → Bool
is_flag b = list_any (λ flag. b == flag) (codes "-+ 0I")

-- what a conversion asks for; None: there is no such conversion
abbrev pub asked_by : ℕ → Option (Option Kind)
asked_by conversion =
    if conversion == 37 then Some None
    else if conversion == 99 then Some (Some Character)
    else if conversion == 115 then Some (Some Text)
    else if list_any (λ letter. conversion == letter) (codes "bdoxX") then Some (Some (Integer Plain))
    else if conversion == 102 then Some (Some (Float Plain))
    else if conversion == 106 then Some (Some Any)
    else None

abbrev pub made_if : Option ℕ → List ℕ → Option (Option Kind) → Option (Directive × List ℕ)
made_if number rest None = None
made_if number rest (Some kind) = Some (printing_directive None None (argument number kind), rest)

abbrev pub behind_number : Option ℕ → List ℕ → Option (Directive × List ℕ)
behind_number number [] = None
behind_number number (b ∷ more) = made_if number more (asked_by b)

-- flags, a width, a precision and a conversion
abbrev pub back : Option ℕ → List ℕ → Option (Directive × List ℕ)
back number text = behind_number number (behind_precision (behind is_ascii_digit (behind is_flag text)))

abbrev pub back_of : Option (Option ℕ × List ℕ) → Option (Directive × List ℕ)
back_of None = None
back_of (Some found) = back found.0 found.1

-- what the directive asks for, and what follows
abbrev pub directive : List ℕ → Option (Directive × List ℕ)
directive text = back_of (index_at text)
