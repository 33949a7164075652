-- Directives of Lua's `string.format`, from behind the `%` (GNU gettext manual, "Lua Format Strings"; Lua 5.3 reference
-- manual, 6.4.1, `string.format`).
use Rattle.std.specs.Prelude.{ℕ, ◌==◌, if◌then◌else◌, List, [], ◌∷◌, Option, None, Some, codes}
use Rattle.std.specs.List.{list_any}
use Rattle.std.specs.Char.{is_ascii_digit}
use Rattle.format_arguments.specs.Bytes.{behind}
use Rattle.numbered_arguments.specs.declared.Kind.{Kind}
use Rattle.numbered_arguments.specs.declared.Kind.TheVariants.{Character, Text, Integer, Float, Object}
use Rattle.numbered_arguments.specs.declared.Size.TheVariants.{Plain}
use Rattle.script_formats.specs.declared.directive.Directive.{Directive}
use Rattle.script_formats.specs.ScriptParts.{argument, printing_directive, behind_percent, behind_precision}

-- what a conversion asks for; None: there is no such conversion. `q` takes an object and writes it as Lua's code does
abbrev pub asked_by : ℕ → Option Kind
asked_by conversion =
    if conversion == 99 then Some Character
    else if conversion == 115 then Some Text
    else if conversion == 113 then Some Object
    else if list_any (λ letter. conversion == letter) (codes "diouxX") then Some (Integer Plain)
    else if list_any (λ letter. conversion == letter) (codes "aAeEfgG") then Some (Float Plain)
    else None

abbrev pub made_if : List ℕ → Option Kind → Option (Directive × List ℕ)
made_if rest None = None
made_if rest (Some kind) = Some (printing_directive None None (argument None (Some kind)), rest)

abbrev pub conversion_at : List ℕ → Option (Directive × List ℕ)
conversion_at [] = None
conversion_at (b ∷ more) = made_if more (asked_by b)

-- a width and a precision, which are digits or nothing, and a conversion
abbrev pub unless_percent : List ℕ → Option (List ℕ) → Option (Directive × List ℕ)
unless_percent text None = conversion_at (behind_precision (behind is_ascii_digit text))
unless_percent text (Some rest) = Some (printing_directive None None None, rest)

-- what the directive asks for, and what follows
abbrev pub directive : List ℕ → Option (Directive × List ℕ)
directive text = unless_percent text (behind_percent text)
