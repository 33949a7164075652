-- What the directives of GNU Fortran print, and the kinds that stand for it: only whether two are the same matters.
use Rattle.std.specs.Prelude.{}
use Rattle.numbered_arguments.specs.declared.Kind.{Kind}
use Rattle.numbered_arguments.specs.declared.Kind.TheVariants.{Character, Text, Integer, Unsigned, Pointer, Object}
use Rattle.numbered_arguments.specs.declared.Size.TheVariants.{Plain, Long}
use Rattle.gfc_internal_format.specs.declared.operands.Operand.{Operand}
use Rattle.gfc_internal_format.specs.declared.operands.Operand.TheVariants as operands

abbrev pub stand_in : Operand → Kind
stand_in operands.CurrentLocus = Pointer
stand_in operands.Locus = Object
stand_in operands.Character = Character
stand_in operands.Text = Text
stand_in operands.Int = Integer Plain
stand_in operands.Unsigned = Unsigned Plain
stand_in operands.Long = Integer Long
stand_in operands.UnsignedLong = Unsigned Long
