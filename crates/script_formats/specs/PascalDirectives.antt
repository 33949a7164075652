-- Directives of Object Pascal's `Format`, from behind the `%` (GNU gettext manual, "Object Pascal Format Strings"; Free
-- Pascal's reference of SysUtils, "Format").
use Rattle.std.specs.Prelude.{ℕ, Bool, ◌||◌, ◌==◌, if◌then◌else◌, List, [], ◌∷◌, Option, None, Some, codes}
use Rattle.std.specs.List.{list_any}
use Rattle.std.specs.Char.{is_ascii_digit}
use Rattle.format_arguments.specs.Bytes.{run, behind, behind_one}
use Rattle.numbered_arguments.specs.declared.Kind.{Kind}
use Rattle.numbered_arguments.specs.declared.Kind.TheVariants.{Text, Integer, Float, Pointer}
use Rattle.numbered_arguments.specs.declared.Size.TheVariants.{Plain}
use Rattle.numbered_arguments.specs.declared.Request.{Request}
use Rattle.numbered_arguments.specs.NumberedArguments.{number_of}
use Rattle.script_formats.specs.declared.directive.Directive.{Directive}
use Rattle.script_formats.specs.declared.pascal.Index.{Index}
use Rattle.script_formats.specs.declared.pascal.Index.TheVariants.{Next, Own, Given}
use Rattle.script_formats.specs.ScriptParts.{argument, printing_directive, behind_percent, following_number, amount}

-- ---- "index"

abbrev pub behind_colon : List ℕ → Option (List ℕ)
behind_colon [] = None
behind_colon (b ∷ more) = if b == 58 then Some more else None

-- what follows `*:`
abbrev pub behind_given : List ℕ → Option (List ℕ)
behind_given [] = None
behind_given (b ∷ more) = if b == 42 then behind_colon more else None

abbrev pub own_of : ℕ → Option (List ℕ) → Option (ℕ × List ℕ)
own_of index None = None
own_of index (Some rest) = Some (following_number index, rest)

-- digits and a colon: the number of the argument, and what follows. Indices count from 0, and no digits are 0
abbrev pub own_index : List ℕ → Option (ℕ × List ℕ)
own_index text = own_of (number_of (run is_ascii_digit text)) (behind_colon (behind is_ascii_digit text))

abbrev pub own_or_next : List ℕ → Option (ℕ × List ℕ) → Index × List ℕ
own_or_next text None = (Next, text)
own_or_next text (Some found) = (Own found.0, found.1)

abbrev pub index_of : List ℕ → Option (List ℕ) → Index × List ℕ
index_of text None = own_or_next text (own_index text)
index_of text (Some rest) = (Given, rest)

-- `*:`, digits and a colon, or nothing
abbrev pub index : List ℕ → Index × List ℕ
index text = index_of text (behind_given text)

-- ---- "precision"

-- a star or at least one digit
abbrev pub amount_there : List ℕ → Option (Option Request × List ℕ)
amount_there [] = None
amount_there (b ∷ more) = if b == 42 || is_ascii_digit b then Some (amount None (b ∷ more)) else None

-- a dot and an amount, or nothing; None: no amount follows the dot
abbrev pub precision : List ℕ → Option (Option Request × List ℕ)
precision [] = Some (None, [])
precision (b ∷ more) = if b == 46 then amount_there more else Some (None, b ∷ more)

-- ---- conversions

-- what a conversion asks for; None: there is no such conversion
abbrev pub asked_by : ℕ → Option Kind
asked_by conversion =
    if list_any (λ letter. conversion == letter) (codes "dDuUxX") then Some (Integer Plain)
    else if list_any (λ letter. conversion == letter) (codes "eEfFgGnNmM") then Some (Float Plain)
    else if list_any (λ letter. conversion == letter) (codes "sS") then Some Text
    else if list_any (λ letter. conversion == letter) (codes "pP") then Some Pointer
    else None

-- ---- directives

-- with an index that an argument gives, that argument is asked for, and nothing is known of the conversion's
abbrev pub directive_of : Index → Option Request → Option Request → Kind → Directive
directive_of Next width precision kind = printing_directive width precision (argument None (Some kind))
directive_of (Own number) width precision kind = printing_directive width precision (argument (Some number) (Some kind))
directive_of Given width precision kind = record {
  index = argument None (Some (Integer Plain));
  separator = None;
  vector = None;
  width = width;
  precision = precision;
  argument = None;
}

abbrev pub made_if : Index → Option Request → Option Request → List ℕ → Option Kind → Option (Directive × List ℕ)
made_if index width precision rest None = None
made_if index width precision rest (Some kind) = Some (directive_of index width precision kind, rest)

abbrev pub conversion_at : Index → Option Request → Option Request → List ℕ → Option (Directive × List ℕ)
conversion_at index width precision [] = None
conversion_at index width precision (b ∷ more) = made_if index width precision more (asked_by b)

abbrev pub behind_precision : Index → Option Request → Option (Option Request × List ℕ) → Option (Directive × List ℕ)
behind_precision index width None = None
behind_precision index width (Some found) = conversion_at index width found.0 found.1

abbrev pub is_minus : ℕ → Bool
is_minus b = b == 45

-- behind the index: a minus, which may be left out, a width, a precision and a conversion
abbrev pub back : Index → List ℕ → Option (Directive × List ℕ)
back index text = behind_precision index (amount None (behind_one is_minus text)).0
    (precision (amount None (behind_one is_minus text)).1)

abbrev pub unless_percent : List ℕ → Option (List ℕ) → Option (Directive × List ℕ)
unless_percent text None = back (index text).0 (index text).1
unless_percent text (Some rest) = Some (printing_directive None None None, rest)

-- what the directive asks for, and what follows
abbrev pub directive : List ℕ → Option (Directive × List ℕ)
directive text = unless_percent text (behind_percent text)
