-- What only the directives of GCC print, and the kinds that stand for it: only whether two are the same matters, so
-- each has a kind that no plain argument of GCC has.
use Rattle.std.specs.Prelude.{}
use Rattle.numbered_arguments.specs.declared.Kind.{Kind}
use Rattle.numbered_arguments.specs.declared.Kind.TheVariants.{Any, Character, Text, Integer, Unsigned, Float, Vector}
use Rattle.numbered_arguments.specs.declared.Kind.TheVariants.{Pointer, Count, Object, Number, Date}
use Rattle.numbered_arguments.specs.declared.Size.TheVariants.{Plain, Short, Long, LongLong, Native}
use Rattle.gcc_internal_format.specs.declared.entities.Entity.{Entity}
use Rattle.gcc_internal_format.specs.declared.entities.Entity.TheVariants as entities

abbrev pub stand_in : Entity → Kind
stand_in entities.Location = Object
stand_in entities.Declaration = Vector
stand_in entities.Statement = Date
stand_in entities.Function = Count Plain
stand_in entities.Type = Count Short
stand_in entities.Arguments = Count Long
stand_in entities.Expression = Count LongLong
stand_in entities.Qualifiers = Count Native
stand_in entities.Code = Number
stand_in entities.Operator = Float Plain
stand_in entities.Assignment = Float Short
stand_in entities.Language = Float Long
stand_in entities.Parameter = Float LongLong

-- the kinds of plain arguments, and the one that fits every other
abbrev pub IsPlain : Kind → Type 0
IsPlain Any = Unit {0}
IsPlain Character = Unit {0}
IsPlain Text = Unit {0}
IsPlain (Integer size) = Unit {0}
IsPlain (Unsigned size) = Unit {0}
IsPlain Pointer = Unit {0}
IsPlain _ = ⊥
