-- The table of conversions: which length modifiers each may have, and the argument that the pair takes (C standard,
-- 7.21.6.1, 7 and 8).
use Rattle.std.specs.Prelude.{ℕ, ◌==◌, if◌then◌else◌, List, [], ◌∷◌, codes}
use Rattle.std.specs.List.{list_any}
use Rattle.c_signature.specs.declared.Size.{Size}
use Rattle.c_signature.specs.declared.Size.TheVariants.{Plain, Long, LongLong}
use Rattle.c_signature.specs.declared.ArgKind.{ArgKind}
use Rattle.c_signature.specs.declared.ArgKind.TheVariants.{Signed, Unsigned, Double, LongDouble, Char}
use Rattle.c_signature.specs.declared.ArgKind.TheVariants.{WideChar, Text, WideText, Pointer, Count}
use Rattle.c_signature.specs.Pieces.{Modifier, Of}
use Rattle.c_signature.specs.Pieces as parts

-- what a conversion with a length modifier takes: it is undefined; no argument; one argument
pub data Argument : Type 0 where
  Undefined : Argument
  Nothing : Argument
  One : (kind : ArgKind) → Argument

-- the size of an integer; `L` counts as `ll`, as in GNU gettext
abbrev pub integer_size : Modifier → Size
integer_size (Of size) = size
integer_size parts.LongDouble = LongLong

-- `l` has no effect
abbrev pub floating : Modifier → Argument
floating (Of Plain) = One Double
floating (Of Long) = One Double
floating parts.LongDouble = One LongDouble
floating _ = Undefined

-- one kind without a length modifier, and another with `l`
abbrev pub narrow_or_wide : ArgKind → ArgKind → Modifier → Argument
narrow_or_wide narrow wide (Of Plain) = One narrow
narrow_or_wide narrow wide (Of Long) = One wide
narrow_or_wide narrow wide _ = Undefined

abbrev pub count : Modifier → Argument
count (Of size) = One (Count size)
count parts.LongDouble = Undefined

-- a conversion that allows no length modifier
abbrev pub without_modifier : Argument → Modifier → Argument
without_modifier argument (Of Plain) = argument
without_modifier argument _ = Undefined

-- C standard, 7.21.6.1, 7 and 8; `C` and `S` are POSIX's, `m` is glibc's
abbrev pub table : List (List ℕ × (Modifier → Argument))
table =
    (codes "di", λ modifier. One (Signed (integer_size modifier)))
    ∷ (codes "ouxX", λ modifier. One (Unsigned (integer_size modifier)))
    ∷ (codes "eEfFgGaA", floating)
    ∷ (codes "c", narrow_or_wide Char WideChar)
    ∷ (codes "s", narrow_or_wide Text WideText)
    ∷ (codes "C", without_modifier (One WideChar))
    ∷ (codes "S", without_modifier (One WideText))
    ∷ (codes "p", without_modifier (One Pointer))
    ∷ (codes "n", count)
    ∷ (codes "m%", without_modifier Nothing)
    ∷ []

-- the row of a conversion, applied to a length modifier
abbrev pub find_in : List (List ℕ × (Modifier → Argument)) → ℕ → Modifier → Argument
find_in [] conversion modifier = Undefined
find_in (row ∷ rows) conversion modifier =
    if list_any (λ letter. conversion == letter) row.0 then row.1 modifier else find_in rows conversion modifier

abbrev pub argument_of : ℕ → Modifier → Argument
argument_of conversion modifier = find_in table conversion modifier
