-- What the directives of Objective-C take, and the kinds that stand for it: only whether two are the same matters.
use Rattle.std.specs.Prelude.{Option, None, Some}
use Rattle.c_signature.specs.declared.ArgKind.TheVariants as c
use Rattle.c_signature.specs.declared.Size.{Size}
use Rattle.c_signature.specs.declared.Size.TheVariants as sizes
use Rattle.numbered_arguments.specs.declared.Kind.{Kind}
use Rattle.numbered_arguments.specs.declared.Kind.TheVariants.{Character, Text, Integer, Unsigned, Float, Vector}
use Rattle.numbered_arguments.specs.declared.Kind.TheVariants.{Pointer, Count, Object, Date}
use Rattle.numbered_arguments.specs.declared.Size.TheVariants.{Plain, Short, Long, LongLong, Native}
use Rattle.objc_format.specs.declared.kinds.Taken.{Taken}
use Rattle.objc_format.specs.declared.kinds.Taken.TheVariants as takes

abbrev pub signed_kind : Size → Kind
signed_kind sizes.Plain = Integer Plain
signed_kind sizes.Short = Integer Short
signed_kind sizes.Long = Integer Long
signed_kind sizes.LongLong = Integer LongLong
signed_kind sizes.SizeT = Integer Native
signed_kind sizes.Byte = Count Short
signed_kind sizes.Max = Count Long
signed_kind sizes.PtrDiff = Count LongLong

abbrev pub unsigned_kind : Size → Kind
unsigned_kind sizes.Plain = Unsigned Plain
unsigned_kind sizes.Short = Unsigned Short
unsigned_kind sizes.Long = Unsigned Long
unsigned_kind sizes.LongLong = Unsigned LongLong
unsigned_kind sizes.SizeT = Unsigned Native
unsigned_kind sizes.Byte = Float Short
unsigned_kind sizes.Max = Float Long
unsigned_kind sizes.PtrDiff = Float Native

-- a pointer to another integer than an `int` is not read
abbrev pub pointer_kind : Size → Option Kind
pointer_kind sizes.Plain = Some (Count Plain)
pointer_kind _ = None

-- None: it is not read
abbrev pub stand_in : Taken → Option Kind
stand_in (takes.C (c.Signed size)) = Some (signed_kind size)
stand_in (takes.C (c.Unsigned size)) = Some (unsigned_kind size)
stand_in (takes.C c.Double) = Some (Float Plain)
stand_in (takes.C c.LongDouble) = Some (Float LongLong)
stand_in (takes.C c.Char) = Some Character
stand_in (takes.C c.WideChar) = Some Date
stand_in (takes.C c.Text) = Some Text
stand_in (takes.C c.WideText) = Some Vector
stand_in (takes.C c.Pointer) = Some Pointer
stand_in (takes.C (c.Count size)) = pointer_kind size
stand_in takes.Object = Some Object
