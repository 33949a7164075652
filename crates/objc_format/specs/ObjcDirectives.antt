-- Directives of Objective-C, from behind the `%` (C standard, 7.21.6.1, 4 to 6; POSIX, fprintf; GNU gettext manual,
-- "Objective C Format Strings").
pub use Rattle.byte_text.specs.Characters.{percent}
use Rattle.std.specs.Prelude.{◌≡◌, ℕ, Bool, true, false, ◌==◌, if◌then◌else◌, List, [], ◌∷◌, ◌++◌, Option, None, Some}
use Rattle.std.specs.Prelude.{codes}
use Rattle.std.specs.List.{list_any}
use Rattle.std.specs.Char.{is_ascii_digit}
use Rattle.c_signature.specs.declared.Size.{Size}
use Rattle.format_arguments.specs.Bytes.{run, behind}
use Rattle.numbered_arguments.specs.declared.Kind.{Kind}
use Rattle.numbered_arguments.specs.declared.Kind.TheVariants.{Integer}
use Rattle.numbered_arguments.specs.declared.Size.TheVariants.{Plain}
use Rattle.numbered_arguments.specs.declared.Request.{Request}
use Rattle.numbered_arguments.specs.NumberedArguments.{list_of}
use Rattle.script_formats.specs.ScriptParts.{index_at}
use Rattle.objc_format.specs.declared.kinds.Taken.{Taken}
use Rattle.objc_format.specs.declared.directive.Directive.{Directive}
use Rattle.objc_format.specs.ObjcKinds.{stand_in}
use Rattle.objc_format.specs.ObjcConversions.{is_size, size_of, taken_by, takes_nothing}

-- ---- what a directive asks for

abbrev pub request : Option ℕ → Kind → Request
request number kind = record { number = number; kind = kind }

abbrev pub directive_asking : Option Request → Option Request → Option Request → Directive
directive_asking width precision argument =
    record { width = width; precision = precision; argument = argument; is_read = true }

-- in this order
abbrev pub asks : Directive → List Request
asks d = list_of d.width ++ list_of d.precision ++ list_of d.argument

-- behind a directive that is not read nothing is read
abbrev pub unread_directive : Directive × List ℕ
unread_directive = (record { width = None; precision = None; argument = None; is_read = false }, [])

-- ---- widths and precisions

-- behind a star: an `int` with a number or without
abbrev pub with_star : Option (Option ℕ × List ℕ) → Option (Option Request × List ℕ)
with_star None = None
with_star (Some found) = Some (Some (request found.0 (Integer Plain)), found.1)

-- a star, digits or nothing; None: the number behind the star is 0
abbrev pub amount : List ℕ → Option (Option Request × List ℕ)
amount [] = Some (None, [])
amount (b ∷ more) = if b == 42 then with_star (index_at more) else Some (None, behind is_ascii_digit (b ∷ more))

-- it may be left out
abbrev pub precision : List ℕ → Option (Option Request × List ℕ)
precision [] = Some (None, [])
precision (b ∷ more) = if b == 46 then amount more else Some (None, b ∷ more)

-- ---- the conversion

abbrev pub directive_with : Option ℕ → Option Request → Option Request → List ℕ → Option Kind → Directive × List ℕ
directive_with number width own_precision rest None = unread_directive
directive_with number width own_precision rest (Some kind) =
    (directive_asking width own_precision (Some (request number kind)), rest)

abbrev pub directive_from : Option ℕ → Option Request → Option Request → List ℕ → Option Taken
    → Option (Directive × List ℕ)
directive_from number width own_precision rest None = None
directive_from number width own_precision rest (Some taken) =
    Some (directive_with number width own_precision rest (stand_in taken))

-- behind the size
abbrev pub behind_size : Option ℕ → Option Request → Option Request → Size → List ℕ → Option (Directive × List ℕ)
behind_size number width own_precision given [] = None
behind_size number width own_precision given (b ∷ more) =
    if takes_nothing b then Some (directive_asking width own_precision None, more)
    else directive_from number width own_precision more (taken_by b given)

-- ---- directives

-- behind the precision: a `<` begins a macro of <inttypes.h>, which is not read
abbrev pub behind_precision : Option ℕ → Option Request → Option Request → List ℕ → Option (Directive × List ℕ)
behind_precision number width own_precision [] = None
behind_precision number width own_precision (b ∷ more) =
    if b == 60 then Some unread_directive
    else behind_size number width own_precision (size_of (run is_size (b ∷ more))) (behind is_size (b ∷ more))

abbrev pub with_precision : Option ℕ → Option Request → Option (Option Request × List ℕ) → Option (Directive × List ℕ)
with_precision number width None = None
with_precision number width (Some found) = behind_precision number width found.0 found.1

abbrev pub with_width : Option ℕ → Option (Option Request × List ℕ) → Option (Directive × List ℕ)
with_width number None = None
with_width number (Some found) = with_precision number found.0 (precision found.1)

-- `'` is POSIX's
abbrev pub is_flag : ℕ → Bool
is_flag b = list_any (λ flag. b == flag) (codes " +-#0'")

-- behind the flags: one more, glibc's `I`, is not read
abbrev pub behind_flags : Option ℕ → List ℕ → Option (Directive × List ℕ)
behind_flags number [] = None
behind_flags number (b ∷ more) = if b == 73 then Some unread_directive else with_width number (amount (b ∷ more))

abbrev pub with_number : Option (Option ℕ × List ℕ) → Option (Directive × List ℕ)
with_number None = None
with_number (Some found) = behind_flags found.0 (behind is_flag found.1)

-- what follows the `%`: the directive, and what follows it
abbrev pub directive : List ℕ → Option (Directive × List ℕ)
directive text = with_number (index_at text)

-- text is a `%` and this directive, followed by rest
abbrev pub DirectiveAt : Directive → List ℕ → List ℕ → Type 0
DirectiveAt d text rest = (inner : List ℕ) × (text ≡ percent ∷ inner) × (directive inner ≡ Some (d, rest))
