-- Private: what the readers of directives and of numbers guarantee to one another.
use Rattle.std.specs.Prelude.{◌≡◌, ℕ, ◌≤◌, true, List, [], ◌∷◌, ◌++◌, length, map, Option, None, Some}
use Rattle.c_signature.specs.declared.ArgKind.{ArgKind}
use Rattle.c_signature.specs.declared.FormatFault.{FormatFault}
use Rattle.c_signature.specs.declared.FormatFault.TheVariants.{Invalid, SystemDependent, Memory}
use Rattle.c_signature.specs.declared.directives.Directive as code_directive
use Rattle.c_signature.specs.Signature.{Request, request, amount_requests, argument_requests, requests}
use Rattle.c_signature.specs.Directives.{Directive, DirectiveAt, IsUnreadable, NamesMacro}
use Rattle.c_signature.specs.Pieces.{is_first_digit, IsNumeral}
use Rattle.c_signature.specs.Readers.{amount_view, argument_view}
use Rattle.byte_text.specs.Decimal.{decimal_value}

-- ---- directives of the code

-- what a directive of the code asks for
abbrev pub asked_by : code_directive.Directive → List Request
asked_by d =
    amount_requests (amount_view d.width) ++ amount_requests (amount_view d.precision)
    ++ argument_requests d.number (argument_view d.argument)

-- both are requests for the same arguments, none of them by a number
abbrev pub AskSame : List Request → List Request → Type 0
AskSame asked others = (kinds : List ArgKind) × (asked ≡ map (λ kind. request None kind) kinds)
    × (others ≡ map (λ kind. request None kind) kinds)

-- text is a directive that asks for this, followed by rest
abbrev pub ReadsDirective : code_directive.Directive → List ℕ → List ℕ → Type 0
ReadsDirective directive text rest = (d : Directive) × DirectiveAt d text rest × (requests d ≡ asked_by directive)

-- both texts are a directive, followed by a rest, and the two directives ask for the same
abbrev pub ReadSame : List ℕ → List ℕ → List ℕ → List ℕ → Type 0
ReadSame first second rest others = (d twin : Directive) × DirectiveAt d first rest × DirectiveAt twin second others
    × AskSame (requests d) (requests twin)

-- ---- numbers

-- a number without a leading 0 is at the front
abbrev pub BeginsNumber : List ℕ → Type 0
BeginsNumber [] = ⊥
BeginsNumber (b ∷ more) = is_first_digit b ≡ true

-- the digits of an argument number
pub record IsNumber (digits : List ℕ) : Type 0 where
  pub numeral : IsNumeral digits
  pub short : length digits ≤ 9

-- the argument number that the digits spell, or None if they spell none
abbrev pub IsNumberOf : List ℕ → Option ℕ → Type 0
IsNumberOf digits None = ¬ IsNumber digits
IsNumberOf digits (Some m) = IsNumber digits × (m ≡ decimal_value digits)

-- why the directive at the front of text can't be read
abbrev pub Refuses : FormatFault → List ℕ → Type 0
Refuses Invalid text = IsUnreadable text × ¬ NamesMacro text
Refuses SystemDependent text = IsUnreadable text × NamesMacro text
Refuses Memory text = ⊥
