-- Composite formats, and the arguments that they ask for.
use Rattle.std.specs.Prelude.{◌≡◌, ℕ, List, [], ◌∷◌, Option, None, Some}
use Rattle.std.specs.List.{flat_map}
use Rattle.format_arguments.specs.declared.FormatFault.{FormatFault}
use Rattle.format_arguments.specs.declared.FormatFault.TheVariants.{Invalid, Memory}
use Rattle.numbered_arguments.specs.declared.Kind.TheVariants.{Any}
use Rattle.numbered_arguments.specs.declared.Numbered.{Numbered}
use Rattle.csharp_format.specs.CSharpItems.{piece}

-- the text is these pieces, one behind the other
abbrev pub ArePieces : List (Option ℕ) → List ℕ → Type 0
ArePieces [] text = text ≡ []
ArePieces (p ∷ more) text = (rest : List ℕ) × (piece text ≡ Some (p, rest)) × ArePieces more rest

-- what a piece asks for: any object, by its number
abbrev pub asks : Option ℕ → List Numbered
asks None = []
asks (Some number) = record { number = number; kind = Any } ∷ []

-- the text is a format that asks for these arguments, in this order
abbrev pub HasSignature : List ℕ → List Numbered → Type 0
HasSignature text asked = (pieces : List (Option ℕ)) × ArePieces pieces text × (asked ≡ flat_map asks pieces)

-- the text has this fault; Memory says nothing about the text
abbrev pub HasFault : List ℕ → FormatFault → Type 0
HasFault text Invalid = (asked : List Numbered) → ¬ HasSignature text asked
HasFault text Memory = Unit {0}
