-- The laws of the meaning of PO texts: each has exactly one.
use Rattle.std.specs.Prelude.{◌≡◌, ℕ, List}
use Rattle.catalogue.specs.Meaning.{Means, Refuses}
use Rattle.po_checks.specs.declared.options.Options.{Options}
use Rattle.catalogue.specs.declared.compiler.Compiled.{Compiled}
use Rattle.po_checks.specs.declared.fault.LoadKind.{LoadKind}

-- a text compiles to one catalogue, with one set of counts
abbrev pub HasOneMeaning : Type 0
HasOneMeaning = (text : List ℕ) (options : Options) (compiled other : Compiled) → Means text options compiled
    → Means text options other → compiled ≡ other

-- a text is refused with one kind, at one line
abbrev pub HasOneRefusal : Type 0
HasOneRefusal = (text : List ℕ) (options : Options) (kind other_kind : LoadKind) (line other_line : ℕ)
    → Refuses text options kind line → Refuses text options other_kind other_line → (kind ≡ other_kind)
    × (line ≡ other_line)

-- a text that compiles isn't refused
abbrev pub MeansOrIsRefused : Type 0
MeansOrIsRefused = (text : List ℕ) (options : Options) (compiled : Compiled) (kind : LoadKind) (line : ℕ)
    → Means text options compiled → ¬ Refuses text options kind line

-- no text is without both a meaning and a refusal
abbrev pub HasSomeMeaning : Type 0
HasSomeMeaning = (text : List ℕ) (options : Options) → ((compiled : Compiled) → ¬ Means text options compiled)
    → ¬ ¬ ((kind : LoadKind) × (line : ℕ) × Refuses text options kind line)
