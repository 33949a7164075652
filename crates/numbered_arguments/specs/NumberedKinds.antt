-- Which kinds are the same, and which can be one object.
use Rattle.std.specs.Prelude.{Bool, true, false, ◌||◌}
use Rattle.numbered_arguments.specs.declared.Size.{Size}
use Rattle.numbered_arguments.specs.declared.Size.TheVariants.{Plain, Short, Long, LongLong, Native}
use Rattle.numbered_arguments.specs.declared.Kind.{Kind}
use Rattle.numbered_arguments.specs.declared.Kind.TheVariants.{Any, Character, Text, Integer, Unsigned, Float, Vector}
use Rattle.numbered_arguments.specs.declared.Kind.TheVariants.{Pointer, Count, Object, Number, Date}

abbrev pub same_size : Size → Size → Bool
same_size Plain Plain = true
same_size Short Short = true
same_size Long Long = true
same_size LongLong LongLong = true
same_size Native Native = true
same_size _ _ = false

abbrev pub same_kind : Kind → Kind → Bool
same_kind Any Any = true
same_kind Character Character = true
same_kind Text Text = true
same_kind (Integer one) (Integer other) = same_size one other
same_kind (Unsigned one) (Unsigned other) = same_size one other
same_kind (Float one) (Float other) = same_size one other
same_kind Vector Vector = true
same_kind Pointer Pointer = true
same_kind (Count one) (Count other) = same_size one other
same_kind Object Object = true
same_kind Number Number = true
same_kind Date Date = true
same_kind _ _ = false

abbrev pub is_any : Kind → Bool
is_any Any = true
is_any _ = false

-- one object can be both
abbrev pub kinds_fit : Kind → Kind → Bool
kinds_fit one other = is_any one || is_any other || same_kind one other
