-- Each operand has a kind of its own.
use Rattle.std.proofs.Common.{◌≡◌, Option, None, Some, refl, sym, ap, ◌∙◌}
use Rattle.numbered_arguments.specs.declared.Kind.{Kind}
use Rattle.numbered_arguments.specs.declared.Kind.TheVariants.{Character, Text, Integer, Unsigned, Pointer, Object}
use Rattle.numbered_arguments.specs.declared.Size.TheVariants.{Plain, Long}
use Rattle.gfc_internal_format.specs.declared.operands.Operand.{Operand}
use Rattle.gfc_internal_format.specs.declared.operands.Operand.TheVariants as operands
use Rattle.gfc_internal_format.specs.GfcOperands.{stand_in}

-- the operand that a kind stands for
abbrev operand_behind : Kind → Option Operand
operand_behind Pointer = Some operands.CurrentLocus
operand_behind Object = Some operands.Locus
operand_behind Character = Some operands.Character
operand_behind Text = Some operands.Text
operand_behind (Integer Plain) = Some operands.Int
operand_behind (Unsigned Plain) = Some operands.Unsigned
operand_behind (Integer Long) = Some operands.Long
operand_behind (Unsigned Long) = Some operands.UnsignedLong
operand_behind _ = None

stands : (o : Operand) → operand_behind (stand_in o) ≡ Some o
stands operands.CurrentLocus = refl
stands operands.Locus = refl
stands operands.Character = refl
stands operands.Text = refl
stands operands.Int = refl
stands operands.Unsigned = refl
stands operands.Long = refl
stands operands.UnsignedLong = refl

pub own_kind : (one other : Operand) → stand_in one ≡ stand_in other → one ≡ other
own_kind one other e =
    let found : Some one ≡ Some other = sym (stands one) ∙ ap operand_behind e ∙ stands other in
    cc found
