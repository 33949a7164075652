-- The parts of a text that differ from system to system (GNU gettext manual, "MO Files"): its macros (C standard,
-- 7.8.1) and its flags `I`, which are glibc's.
use Rattle.std.specs.Prelude.{◌≡◌, ℕ, ◌+◌, ◌-◌, ◌≤◌, ◌<◌, ◌==◌, if◌then◌else◌, List, [], ◌∷◌, ◌++◌, length}
use Rattle.std.specs.Prelude.{◌⊎◌, Bool, true, not}
use Rattle.std.specs.List.{flat_map, list_all}
use Rattle.c_signature.specs.Directives as c
pub use Rattle.c_macros.specs.declared.Split.{Split}
pub use Rattle.c_macros.specs.declared.Side.{Side}
use Rattle.c_macros.specs.declared.Side.TheVariants.{Original, Translation}
use Rattle.c_macros.specs.MacroDirectives.{Directive, Spelled, Named, NamedAt, Head, HeadAt, Kind}
use Rattle.c_macros.specs.MacroFormat.{Lists, IsFormat, percent}

-- ---- the parts of one directive

-- the flag `I`
abbrev pub other_digits : ℕ
other_digits = 73

abbrev pub split : ℕ → ℕ → Split
split start len = record { start = start; len = len }

-- each flag `I` of these flags, the first of which is at this offset
abbrev pub flag_splits : ℕ → List ℕ → List Split
flag_splits start [] = []
flag_splits start (flag ∷ more) =
    if flag == other_digits then split start 1 ∷ flag_splits (start + 1) more else flag_splits (start + 1) more

-- the flags' parts of a directive in a text of this many bytes
abbrev pub head_splits : ℕ → (head : Head) (text rest : List ℕ) → HeadAt head text rest → List Split
head_splits total head text rest at = flag_splits (total - length at.behind_number) head.flags

-- the macro between these ends of a text of this many bytes
abbrev pub macro_split : ℕ → List ℕ → List ℕ → Split
macro_split total text rest = split (total - length text) (length text - length rest)

-- a directive with its parts
pub record Parted : Type 0 where
  pub directive : Directive
  pub parts : List Split

-- an end of a text of this many bytes is the directive, which has these parts, followed by rest
abbrev pub HasPartsAt : ℕ → Directive → List Split → List ℕ → List ℕ → Type 0
HasPartsAt total (Spelled d) parts text rest =
    (at : c.DirectiveAt d text rest) × (parts ≡ head_splits total d.head text at.behind_head at.head)
HasPartsAt total (Named head kind) parts text rest = (at : NamedAt head kind text rest)
    × (parts ≡ head_splits total head text at.behind_head at.head_at ++ macro_split total at.behind_head rest ∷ [])

abbrev pub PartedAt : ℕ → Parted → List ℕ → List ℕ → Type 0
PartedAt total d text rest = HasPartsAt total d.directive d.parts text rest

-- ---- a text

-- the text is directives and plain text, and these are the directives' parts, in order
abbrev pub HasParts : List ℕ → List Split → Type 0
HasParts text parts = (directives : List Parted) × IsFormat percent (PartedAt (length text)) directives text
    × (parts ≡ flat_map (λ d. d.parts) directives)

-- the part isn't a flag `I`
abbrev pub is_macro : Split → Bool
is_macro part = not (part.len == 1)

-- GNU gettext takes the flag `I` for none in an original, which then is no format
abbrev pub IsOf : Side → List Split → Type 0
IsOf Original parts = list_all is_macro parts ≡ true
IsOf Translation parts = Unit {0}

-- the text is a format whose arguments form a list, with these parts, which this side may have
pub record Splits (side : Side) (text : List ℕ) (parts : List Split) : Type 0 where
  pub kinds : List Kind
  pub lists : Lists text kinds
  pub has : HasParts text parts
  pub of : IsOf side parts

-- the parts at which the text is split: none if it is no such format
abbrev pub IsSplitAt : Side → List ℕ → List Split → Type 0
IsSplitAt side text parts =
    Splits side text parts ⊎ ((parts ≡ []) × ((others : List Split) → ¬ Splits side text others))

-- from one offset to another, one part after another, none of which is empty
abbrev pub AreWithin : ℕ → List Split → ℕ → Type 0
AreWithin from [] to = from ≤ to
AreWithin from (part ∷ more) to = (from ≤ part.start) × (0 < part.len) × AreWithin (part.start + part.len) more to
