-- The argument list of a C format with macros (C standard, 7.21.6.1 and 7.8.1; POSIX, fprintf).
use Rattle.std.specs.Prelude.{◌≡◌, ℕ, ◌+◌, ◌<◌, List, length, map, None, Some, ◌⊎◌, Contains, slice_get}
use Rattle.std.specs.List.{flat_map}
pub use Rattle.format_arguments.specs.Text.{IsFormat}
pub use Rattle.c_signature.specs.Pieces.{percent}
pub use Rattle.c_macros.specs.declared.MacroFault.{MacroFault}
pub use Rattle.c_macros.specs.declared.MacroFault.TheVariants.{Invalid, Memory}
pub use Rattle.c_macros.specs.MacroDirectives.{Directive, DirectiveAt, requests, Kind, Request}

-- ---- the list of what is asked for, as in the definitions of c_signature

-- nothing is numbered: the kinds are in the order of the text
pub record InOrder (asked : List Request) (kinds : List Kind) : Type 0 where
  pub unnumbered : (r : Request) → Contains asked r → r.number ≡ None
  pub kinds_are : kinds ≡ map (λ r. r.kind) asked

-- the argument with number i + 1 is at index i of the list
abbrev pub HasPlace : List Kind → Request → Type 0
HasPlace kinds r = (i : ℕ) × (r.number ≡ Some (i + 1)) × (slice_get kinds i ≡ Some r.kind)

-- everything is numbered and at its index in the list, and no number is left out
pub record ByNumber (asked : List Request) (kinds : List Kind) : Type 0 where
  pub placed : (r : Request) → Contains asked r → HasPlace kinds r
  pub complete : (i : ℕ) → i < length kinds → (r : Request) × Contains asked r × (r.number ≡ Some (i + 1))

abbrev pub AsksFor : List Request → List Kind → Type 0
AsksFor asked kinds = InOrder asked kinds ⊎ ByNumber asked kinds

-- some arguments have numbers and some don't, a number is left out, or one has two kinds
abbrev pub HasNoList : List Request → Type 0
HasNoList asked = (kinds : List Kind) → ¬ AsksFor asked kinds

-- ---- a text

-- the whole text is these directives and plain text
abbrev pub IsMacroFormat : List Directive → List ℕ → Type 0
IsMacroFormat directives text = IsFormat percent DirectiveAt directives text

-- the text is a format with these arguments
abbrev pub Lists : List ℕ → List Kind → Type 0
Lists text kinds =
    (directives : List Directive) × IsMacroFormat directives text × AsksFor (flat_map requests directives) kinds

-- the text is no format, or its arguments form no list
abbrev pub IsInvalid : List ℕ → Type 0
IsInvalid text = (kinds : List Kind) → ¬ Lists text kinds

-- the text has this fault; Memory says nothing about the text
abbrev pub HasFault : List ℕ → MacroFault → Type 0
HasFault text Invalid = IsInvalid text
HasFault text Memory = Unit {0}
