-- Directives of Tcl's `format`, from behind the `%` (GNU gettext manual, "Tcl Format Strings"; Tcl's manual page
-- format(n)).
use Rattle.std.specs.Prelude.{ℕ, ◌==◌, if◌then◌else◌, List, [], ◌∷◌, Option, None, Some, codes}
use Rattle.std.specs.List.{list_any}
use Rattle.format_arguments.specs.Bytes.{behind}
use Rattle.numbered_arguments.specs.declared.Kind.{Kind}
use Rattle.numbered_arguments.specs.declared.Kind.TheVariants.{Character, Text, Integer, Unsigned, Float}
use Rattle.numbered_arguments.specs.declared.Size.{Size}
use Rattle.numbered_arguments.specs.declared.Size.TheVariants.{Plain, Short}
use Rattle.numbered_arguments.specs.declared.Request.{Request}
use Rattle.script_formats.specs.declared.directive.Directive.{Directive}
use Rattle.script_formats.specs.ScriptParts.{argument, printing_directive, behind_percent, index_at, following_number}
use Rattle.script_formats.specs.ScriptParts.{is_flag, amount}

-- a star's argument comes before the directive's own: where the one has a number, the other has the following one
abbrev pub next_place : Option ℕ → Option Request → Option ℕ
next_place (Some number) (Some asked) = Some (following_number number)
next_place number asked = number

-- a dot, and a star, digits or nothing behind it; or nothing
abbrev pub precision : Option ℕ → List ℕ → Option Request × List ℕ
precision number [] = (None, [])
precision number (b ∷ more) = if b == 46 then amount number more else (None, b ∷ more)

-- `h`, which makes an integer short, or `l`, which has no effect, or nothing
abbrev pub size : List ℕ → Size × List ℕ
size [] = (Plain, [])
size (b ∷ more) = if b == 104 then (Short, more) else if b == 108 then (Plain, more) else (Plain, b ∷ more)

-- what a conversion asks for; None: there is no such conversion
abbrev pub asked_by : ℕ → Size → Option Kind
asked_by conversion size =
    if conversion == 99 then Some Character
    else if conversion == 115 then Some Text
    else if list_any (λ letter. conversion == letter) (codes "di") then Some (Integer size)
    else if list_any (λ letter. conversion == letter) (codes "uoxX") then Some (Unsigned size)
    else if list_any (λ letter. conversion == letter) (codes "eEfgG") then Some (Float Plain)
    else None

abbrev pub made_if : Option ℕ → Option Request → Option Request → List ℕ → Option Kind
    → Option (Directive × List ℕ)
made_if number width precision rest None = None
made_if number width precision rest (Some kind) =
    Some (printing_directive width precision (argument number (Some kind)), rest)

abbrev pub behind_size : Option ℕ → Option Request → Option Request → Size → List ℕ → Option (Directive × List ℕ)
behind_size number width precision size [] = None
behind_size number width precision size (b ∷ more) = made_if number width precision more (asked_by b size)

-- behind the precision: a size and a conversion
abbrev pub behind_amounts : Option ℕ → Option Request → Option Request → List ℕ → Option (Directive × List ℕ)
behind_amounts number width precision text = behind_size number width precision (size text).0 (size text).1

-- behind the width
abbrev pub behind_width : Option ℕ → Option Request → List ℕ → Option (Directive × List ℕ)
behind_width number width text = behind_amounts (next_place number (precision number text).0) width
    (precision number text).0 (precision number text).1

-- behind the flags
abbrev pub behind_flags : Option ℕ → List ℕ → Option (Directive × List ℕ)
behind_flags number text =
    behind_width (next_place number (amount number text).0) (amount number text).0 (amount number text).1

abbrev pub with_number : Option (Option ℕ × List ℕ) → Option (Directive × List ℕ)
with_number None = None
with_number (Some found) = behind_flags found.0 (behind is_flag found.1)

abbrev pub unless_percent : List ℕ → Option (List ℕ) → Option (Directive × List ℕ)
unless_percent text None = with_number (index_at text)
unless_percent text (Some rest) = Some (printing_directive None None None, rest)

-- what the directive asks for, and what follows
abbrev pub directive : List ℕ → Option (Directive × List ℕ)
directive text = unless_percent text (behind_percent text)
