-- Private: what the readers of directives guarantee to one another.
use Rattle.std.specs.Prelude.{◌≡◌, ℕ, ◌-◌, ◌≤◌, Bool, List, [], ◌∷◌, ◌++◌, length, Option, None, Some, is_some}
use Rattle.std.specs.Option.{unwrap_or}
use Rattle.std.specs.List.{flat_map}
use Rattle.std.specs.List.Sorted.{IsNonDecreasingBy}
use Rattle.c_signature.specs.declared.conversions.Argument as code_argument
use Rattle.c_signature.specs.Pieces.{Modifier}
use Rattle.c_signature.specs.Conversions.{Argument, One, argument_of}
use Rattle.c_signature.specs.Directives as c
use Rattle.c_signature.specs.Directives.{Head, HeadAt, TailAt}
use Rattle.c_signature.specs.Readers.{amount_view, argument_view}
use Rattle.c_macros.specs.declared.directives.Head as code_head
use Rattle.c_macros.specs.declared.directives.Named as code_named
use Rattle.c_macros.specs.declared.directives.Directive as code_directive
pub use Rattle.c_macros.specs.MacroDirectives.{Directive, request, amounts, requests, Request, Kind, Plain}
use Rattle.c_macros.specs.MacroFormat.{IsMacroFormat, MacroFault, Invalid, Memory}
use Rattle.c_macros.specs.MacroSplits.{split, flag_splits, HasPartsAt, HasParts, Split}

-- ---- heads and tails

abbrev pub head_view : code_head.Head → Head
head_view h = record {
  number = h.number;
  flags = h.flags.now;
  width = amount_view h.width;
  precision = amount_view h.precision;
}

-- text is this head, followed by rest
abbrev pub ReadsHead : code_head.Head → List ℕ → List ℕ → Type 0
ReadsHead h text rest = (at : HeadAt (head_view h) text rest) × (h.flags_left ≡ length at.behind_number)

-- text begins with no tail of a directive with this number
abbrev pub HasNoTail : Option ℕ → List ℕ → Type 0
HasNoTail number text = (d : c.Directive) (rest : List ℕ) → d.head.number ≡ number → ¬ TailAt d text rest

abbrev pub directive_from : Head → Modifier → ℕ → c.Directive
directive_from head modifier conversion = record { head = head; modifier = modifier; conversion = conversion }

-- text is a tail of a directive with this number, which takes this argument, followed by rest
abbrev pub ReadsTail : Option ℕ → code_argument.Argument → List ℕ → List ℕ → Type 0
ReadsTail number argument text rest = (modifier : Modifier) × (conversion : ℕ)
    × (argument_view argument ≡ argument_of conversion modifier)
    × ((head : Head) → head.number ≡ number → TailAt (directive_from head modifier conversion) text rest)

abbrev pub own_of : Argument → Option Kind
own_of (One kind) = Some (Plain kind)
own_of _ = None

-- ---- directives

abbrev pub own_requests : Option ℕ → Option Kind → List Request
own_requests number None = []
own_requests number (Some kind) = request number kind ∷ []

-- what a directive of the code asks for
abbrev pub asked_by : code_directive.Directive → List Request
asked_by d = amounts (amount_view d.head.width) ++ amounts (amount_view d.head.precision)
    ++ own_requests d.head.number d.own

abbrev pub named_parts : ℕ → Option code_named.Named → List Split
named_parts total None = []
named_parts total (Some named) = split (total - named.left) named.len ∷ []

-- the parts of a directive of the code, in a text of this many bytes
abbrev pub parts_of : ℕ → code_directive.Directive → List Split
parts_of total d = flag_splits (total - d.head.flags_left) d.head.flags.now ++ named_parts total d.named

abbrev pub NamedFits : ℕ → Option code_named.Named → Type 0
NamedFits total None = Unit {0}
NamedFits total (Some named) = named.left ≤ total

-- the parts of a directive are in a text of this many bytes
pub record Fits (total : ℕ) (d : code_directive.Directive) : Type 0 where
  pub flags : length d.head.flags.now ≤ d.head.flags_left
  pub left : d.head.flags_left ≤ total
  pub named : NamedFits total d.named

-- text is a directive that asks for this and has these parts, followed by rest
abbrev pub ReadsDirective : code_directive.Directive → List ℕ → List ℕ → Type 0
ReadsDirective directive text rest = (d : Directive) × (requests d ≡ asked_by directive) × Fits (length text) directive
    × ((total : ℕ) → HasPartsAt total d (parts_of total directive) text rest)

-- ---- lists

abbrev pub is_numbered : Request → Bool
is_numbered r = is_some r.number

abbrev pub IsRising : List Request → Type 0
IsRising asked = IsNonDecreasingBy (λ r. unwrap_or r.number 0) asked

-- Invalid only if P holds
abbrev pub IsInvalidOnly : MacroFault → Type 0 → Type 0
IsInvalidOnly Invalid P = P
IsInvalidOnly Memory P = Unit {0}

-- ---- texts

-- the text is directives and plain text; this is what the directives ask for, and these are their parts
pub record IsRead (text : List ℕ) (asked : List Request) (parts : List Split) : Type 0 where
  pub directives : List Directive
  pub format : IsMacroFormat directives text
  pub asked_is : asked ≡ flat_map requests directives
  pub parts_are : HasParts text parts
