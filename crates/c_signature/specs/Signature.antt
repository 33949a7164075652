-- The argument list of a C format, and the two other outcomes of a text (C standard, 7.21.6.1; GNU gettext manual,
-- "c-format").
use Rattle.std.specs.Prelude.{◌≡◌, ℕ, ◌+◌, ◌<◌, Bool, true, not, ◌==◌, List, []}
use Rattle.std.specs.Prelude.{◌∷◌, ◌++◌, length, map, Option, None, Some, ◌⊎◌, Contains, slice_get}
use Rattle.std.specs.List.{list_all, flat_map}
use Rattle.c_signature.specs.declared.Size.TheVariants.{Plain}
use Rattle.c_signature.specs.declared.ArgKind.{ArgKind}
use Rattle.c_signature.specs.declared.ArgKind.TheVariants.{Signed}
use Rattle.c_signature.specs.declared.FormatFault.{FormatFault}
use Rattle.c_signature.specs.declared.FormatFault.TheVariants.{Invalid, SystemDependent, Memory}
use Rattle.c_signature.specs.Pieces.{Amount, Fixed, Asked, percent}
use Rattle.c_signature.specs.Conversions.{Argument, One}
use Rattle.c_signature.specs.Directives.{Directive, own_argument, DirectiveAt, IsUnreadable, NamesMacro}

-- ---- what directives ask for

-- an argument that is asked for: the next one, or the one with a number (POSIX, fprintf)
pub record Request : Type 0 where
  pub number : Option ℕ
  pub kind : ArgKind

abbrev pub request : Option ℕ → ArgKind → Request
request number kind = record { number = number; kind = kind }

-- C standard, 7.21.6.1, 5: a `*` takes an `int`
abbrev pub amount_requests : Amount → List Request
amount_requests Fixed = []
amount_requests (Asked number) = request number (Signed Plain) ∷ []

-- C standard, 7.21.6.1, 8
abbrev pub argument_requests : Option ℕ → Argument → List Request
argument_requests number (One kind) = request number kind ∷ []
argument_requests number _ = []

-- C standard, 7.21.6.1, 5: the width's argument comes first, then the precision's, then the directive's own
abbrev pub requests : Directive → List Request
requests d =
    amount_requests d.head.width ++ amount_requests d.head.precision ++ argument_requests d.head.number (own_argument d)

-- ---- the list of what is asked for

-- nothing is numbered: the kinds are in the order of the text
pub record InOrder (asked : List Request) (kinds : List ArgKind) : Type 0 where
  pub unnumbered : (r : Request) → Contains asked r → r.number ≡ None
  pub kinds_are : kinds ≡ map (λ r. r.kind) asked

-- the argument with number i + 1 is at index i of the list
abbrev pub HasPlace : List ArgKind → Request → Type 0
HasPlace kinds r = (i : ℕ) × (r.number ≡ Some (i + 1)) × (slice_get kinds i ≡ Some r.kind)

-- POSIX, fprintf: everything is numbered and at its index in the list, and no number is left out
pub record ByNumber (asked : List Request) (kinds : List ArgKind) : Type 0 where
  pub placed : (r : Request) → Contains asked r → HasPlace kinds r
  pub complete : (i : ℕ) → i < length kinds → (r : Request) × Contains asked r × (r.number ≡ Some (i + 1))

abbrev pub AsksFor : List Request → List ArgKind → Type 0
AsksFor asked kinds = InOrder asked kinds ⊎ ByNumber asked kinds

-- some arguments have numbers and some don't, a number is left out, or one has two kinds
abbrev pub HasNoList : List Request → Type 0
HasNoList asked = (kinds : List ArgKind) → ¬ AsksFor asked kinds

-- ---- a text

abbrev pub is_plain : ℕ → Bool
is_plain b = not (b == percent)

-- C standard, 7.21.6.1, 3: text is bytes other than `%`, followed by rest
pub record SkipsPlain (text rest : List ℕ) : Type 0 where
  pub plain : List ℕ
  pub text_is : text ≡ plain ++ rest
  pub no_percent : list_all is_plain plain ≡ true

-- text is these directives with plain text between them, followed by rest
abbrev pub Cuts : List Directive → List ℕ → List ℕ → Type 0
Cuts [] text rest = text ≡ rest
Cuts (d ∷ more) text rest = (at after : List ℕ) × SkipsPlain text at × DirectiveAt d at after × Cuts more after rest

-- the whole text is these directives and plain text
pub record IsFormat (text : List ℕ) (directives : List Directive) : Type 0 where
  pub last : List ℕ
  pub cut : Cuts directives text last
  pub end : SkipsPlain last []

-- after directives and plain text, the first directive that can't be read begins at `stop`
pub record StopsAt (text stop : List ℕ) : Type 0 where
  pub directives : List Directive
  pub last : List ℕ
  pub cut : Cuts directives text last
  pub plain : SkipsPlain last stop
  pub unreadable : IsUnreadable stop

-- ---- the three outcomes (GNU gettext manual, "c-format")

-- the text is a format with these arguments
abbrev pub Lists : List ℕ → List ArgKind → Type 0
Lists text kinds =
    (directives : List Directive) × IsFormat text directives × AsksFor (flat_map requests directives) kinds

-- both texts are formats with the same arguments
abbrev pub TakeSame : List ℕ → List ℕ → Type 0
TakeSame first second = (kinds : List ArgKind) × Lists first kinds × Lists second kinds

-- the first directive that can't be read names no macro, or all can be read but what they ask for has no list
abbrev pub IsInvalid : List ℕ → Type 0
IsInvalid text = ((stop : List ℕ) × StopsAt text stop × ¬ NamesMacro stop)
    ⊎ ((directives : List Directive) × IsFormat text directives × HasNoList (flat_map requests directives))

-- the first directive that can't be read names a macro, as in `%<PRId64>`
abbrev pub IsSystemDependent : List ℕ → Type 0
IsSystemDependent text = (stop : List ℕ) × StopsAt text stop × NamesMacro stop

-- the text has this fault; Memory says nothing about the text
abbrev pub HasFormatFault : List ℕ → FormatFault → Type 0
HasFormatFault text Invalid = IsInvalid text
HasFormatFault text SystemDependent = IsSystemDependent text
HasFormatFault text Memory = Unit {0}
