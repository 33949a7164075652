-- Directives of GCC's diagnostics, from behind the `%` (GNU gettext manual, "GCC internal Format Strings"; GCC's
-- sources: ABOUT-GCC-NLS, pretty-print.c, c/c-objc-common.c and cp/error.c).
pub use Rattle.byte_text.specs.Characters.{percent}
use Rattle.std.specs.Prelude.{◌≡◌, ℕ, ◌+◌, nat_lt, Bool, true, false, ◌&&◌, ◌||◌, ◌==◌, if◌then◌else◌, List, [], ◌∷◌}
use Rattle.std.specs.Prelude.{Option, None, Some, option_map, codes}
use Rattle.std.specs.List.{list_any, count_by}
use Rattle.std.specs.Char.{is_ascii_digit}
use Rattle.format_arguments.specs.Bytes.{run, behind}
use Rattle.numbered_arguments.specs.declared.Kind.{Kind}
use Rattle.numbered_arguments.specs.declared.Kind.TheVariants.{Character, Text, Integer, Unsigned, Pointer}
use Rattle.numbered_arguments.specs.declared.Size.{Size}
use Rattle.numbered_arguments.specs.declared.Size.TheVariants.{Plain, Long, LongLong, Native}
use Rattle.numbered_arguments.specs.declared.Request.{Request}
use Rattle.script_formats.specs.ScriptParts.{index_at}
use Rattle.gcc_internal_format.specs.declared.entities.Entity.{Entity}
use Rattle.gcc_internal_format.specs.declared.entities.Entity.TheVariants as entities
use Rattle.gcc_internal_format.specs.declared.directive.Directive.{Directive}
use Rattle.gcc_internal_format.specs.GccEntities.{stand_in}

-- ---- what a directive asks for

abbrev pub request : Option ℕ → Kind → Request
request number kind = record { number = number; kind = kind }

abbrev pub directive_asking : Option Request → Option Request → Directive
directive_asking precision argument = record { precision = precision; argument = argument }

-- `m` prints the text of the error number, which no call passes: it is the argument of number 0
abbrev pub error_number : Request
error_number = request (Some 0) (Integer Plain)

-- ---- flags

abbrev pub is_flag : ℕ → Bool
is_flag b = list_any (λ flag. b == flag) (codes "qlw+#")

-- how often a flag is given
abbrev pub count : List ℕ → ℕ → ℕ
count flags flag = count_by (λ b. b == flag) flags

-- each once, but `l` twice, and not `l` and `w`
abbrev pub are_allowed : List ℕ → Bool
are_allowed flags = nat_lt (count flags 113) 2 && nat_lt (count flags 43) 2 && nat_lt (count flags 35) 2
    && nat_lt (count flags 119) 2 && nat_lt (count flags 108) 3 && (count flags 108 == 0 || count flags 119 == 0)

-- `l` is a `long`, `ll` a `long long`, and `w` an integer of the compiler's own width
abbrev pub size : List ℕ → Size
size flags =
    if count flags 119 == 1 then Native
    else if count flags 108 == 1 then Long
    else if count flags 108 == 2 then LongLong
    else Plain

-- ---- conversions

-- what only GCC's directives print
abbrev pub entity_of : ℕ → Option Entity
entity_of conversion =
    if conversion == 72 then Some entities.Location
    else if conversion == 68 then Some entities.Declaration
    else if conversion == 74 then Some entities.Declaration
    else if conversion == 75 then Some entities.Statement
    else if conversion == 70 then Some entities.Function
    else if conversion == 84 then Some entities.Type
    else if conversion == 65 then Some entities.Arguments
    else if conversion == 69 then Some entities.Expression
    else if conversion == 86 then Some entities.Qualifiers
    else if conversion == 67 then Some entities.Code
    else if conversion == 79 then Some entities.Operator
    else if conversion == 81 then Some entities.Assignment
    else if conversion == 76 then Some entities.Language
    else if conversion == 80 then Some entities.Parameter
    else None

-- what a conversion asks for; None: there is no such conversion
abbrev pub asked_by : ℕ → Size → Option Kind
asked_by conversion size =
    if conversion == 99 then Some Character
    else if conversion == 115 then Some Text
    else if list_any (λ letter. conversion == letter) (codes "di") then Some (Integer size)
    else if list_any (λ letter. conversion == letter) (codes "oux") then Some (Unsigned size)
    else if conversion == 112 then Some Pointer
    else option_map stand_in (entity_of conversion)

abbrev pub made_if : Option ℕ → List ℕ → Option Kind → Option (Directive × List ℕ)
made_if number rest None = None
made_if number rest (Some kind) = Some (directive_asking None (Some (request number kind)), rest)

-- ---- a precision, which only `s` may have

abbrev pub text_at : Option ℕ → Option Request → List ℕ → Option (Directive × List ℕ)
text_at number precision [] = None
text_at number precision (b ∷ more) =
    if b == 115 then Some (directive_asking precision (Some (request number Text)), more) else None

-- the argument of a precision is the one before the text's
abbrev pub precedes : Option ℕ → Option ℕ → Bool
precedes None number = true
precedes (Some own) None = false
precedes (Some own) (Some number) = number == own + 1

abbrev pub with_star : Option ℕ → Option (Option ℕ × List ℕ) → Option (Directive × List ℕ)
with_star number None = None
with_star number (Some found) =
    if precedes found.0 number then text_at number (Some (request found.0 (Integer Plain))) found.1 else None

-- behind the dot: `*`, `*m$` or digits, and `s`
abbrev pub with_precision : Option ℕ → List ℕ → Option (Directive × List ℕ)
with_precision number [] = None
with_precision number (b ∷ more) =
    if b == 42 then with_star number (index_at more)
    else if is_ascii_digit b then text_at number None (behind is_ascii_digit more)
    else None

-- ---- directives

-- behind the flags
abbrev pub back : Option ℕ → Size → List ℕ → Option (Directive × List ℕ)
back number size [] = None
back number size (b ∷ more) = if b == 46 then with_precision number more else made_if number more (asked_by b size)

abbrev pub with_flags : Option ℕ → List ℕ → List ℕ → Option (Directive × List ℕ)
with_flags number flags text = if are_allowed flags then back number (size flags) text else None

abbrev pub with_number : Option (Option ℕ × List ℕ) → Option (Directive × List ℕ)
with_number None = None
with_number (Some found) = with_flags found.0 (run is_flag found.1) (behind is_flag found.1)

-- `%%` is a percent sign, `%<` and `%>` quote, and `%'` is an apostrophe
abbrev pub is_mark : ℕ → Bool
is_mark b = list_any (λ mark. b == mark) (codes "%<>'")

-- what follows the `%`: the directive, and what follows it
abbrev pub directive : List ℕ → Option (Directive × List ℕ)
directive [] = None
directive (b ∷ more) =
    if is_mark b then Some (directive_asking None None, more)
    else if b == 109 then Some (directive_asking None (Some error_number), more)
    else with_number (index_at (b ∷ more))

-- text is a `%` and this directive, followed by rest
abbrev pub DirectiveAt : Directive → List ℕ → List ℕ → Type 0
DirectiveAt d text rest = (inner : List ℕ) × (text ≡ percent ∷ inner) × (directive inner ≡ Some (d, rest))
