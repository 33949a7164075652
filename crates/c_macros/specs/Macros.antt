-- The macros of <inttypes.h> for printf, and the integers that they stand for (C standard, 7.8.1).
use Rattle.std.specs.Prelude.{◌≡◌, ℕ, Bool, ◌==◌, if◌then◌else◌, List, [], ◌∷◌, Option, None, Some, option_map, codes}
use Rattle.std.specs.List.{list_any}
use Rattle.std.specs.Str.{bytes_eq}
use Rattle.c_signature.specs.declared.ArgKind.TheVariants as plain
use Rattle.c_signature.specs.declared.Size.TheVariants.{Max}
use Rattle.c_signature.specs.Directives.{BeginsMacro}
use Rattle.c_macros.specs.declared.MacroSize.{MacroSize}
use Rattle.c_macros.specs.declared.MacroSize.TheVariants.{Exact8, Exact16, Exact32, Exact64, Least8, Least16, Least32}
use Rattle.c_macros.specs.declared.MacroSize.TheVariants.{Least64, Fast8, Fast16, Fast32, Fast64, Pointer}
use Rattle.c_macros.specs.declared.MacroKind.TheVariants.{Signed, Unsigned}
pub use Rattle.c_macros.specs.declared.Kind.{Kind}
pub use Rattle.c_macros.specs.declared.Kind.TheVariants.{Plain, Macro}

-- ---- names: what follows `PRI` and the conversion (C standard, 7.8.1, 2)

abbrev pub exact_sizes : List (List ℕ × MacroSize)
exact_sizes = (codes "8", Exact8) ∷ (codes "16", Exact16) ∷ (codes "32", Exact32) ∷ (codes "64", Exact64) ∷ []

abbrev pub least_sizes : List (List ℕ × MacroSize)
least_sizes =
    (codes "LEAST8", Least8) ∷ (codes "LEAST16", Least16) ∷ (codes "LEAST32", Least32) ∷ (codes "LEAST64", Least64) ∷ []

abbrev pub fast_sizes : List (List ℕ × MacroSize)
fast_sizes =
    (codes "FAST8", Fast8) ∷ (codes "FAST16", Fast16) ∷ (codes "FAST32", Fast32) ∷ (codes "FAST64", Fast64) ∷ []

abbrev pub pointer_sizes : List (List ℕ × MacroSize)
pointer_sizes = (codes "PTR", Pointer) ∷ []

abbrev pub find_size : List (List ℕ × MacroSize) → List ℕ → Option MacroSize
find_size [] name = None
find_size (row ∷ rows) name = if bytes_eq name row.0 then Some row.1 else find_size rows name

abbrev pub first_of : Option MacroSize → Option MacroSize → Option MacroSize
first_of None other = other
first_of (Some size) other = Some size

-- the size that a name stands for, unless it is `MAX`
abbrev pub size_of : List ℕ → Option MacroSize
size_of name =
    first_of (first_of (first_of (find_size exact_sizes name) (find_size least_sizes name)) (find_size fast_sizes name))
    (find_size pointer_sizes name)

-- ---- kinds

-- C standard, 7.8.1, 2 to 3: `d` and `i` are signed, the others aren't
abbrev pub is_signed : ℕ → Bool
is_signed conversion = list_any (λ letter. conversion == letter) (codes "di")

abbrev pub kind_of_size : ℕ → MacroSize → Kind
kind_of_size conversion size = if is_signed conversion then Macro (Signed size) else Macro (Unsigned size)

-- C standard, 7.20.1.5: `intmax_t` and `uintmax_t`, whose length modifier is `j`
abbrev pub greatest_kind : ℕ → Kind
greatest_kind conversion = if is_signed conversion then Plain (plain.Signed Max) else Plain (plain.Unsigned Max)

-- the kind of argument that a macro with this conversion and name takes, if there is such a macro
abbrev pub kind_of : ℕ → List ℕ → Option Kind
kind_of conversion name =
    if bytes_eq name (codes "MAX") then Some (greatest_kind conversion) else option_map (kind_of_size conversion)
    (size_of name)

-- text is a macro between `<` and `>` that takes this kind of argument, followed by rest (GNU gettext manual,
-- "c-format")
pub record MacroAt (kind : Kind) (text rest : List ℕ) : Type 0 where
  pub begins : BeginsMacro text
  pub kind_is : kind_of begins.conversion begins.name ≡ Some kind
  pub rest_is : begins.rest ≡ rest
