-- What is read has a kind of its own.
use Rattle.std.proofs.Common.{◌≡◌, Option, None, Some, refl, sym, ap, ◌∙◌}
use Rattle.c_signature.specs.declared.ArgKind.TheVariants as c
use Rattle.c_signature.specs.declared.Size.{Size}
use Rattle.c_signature.specs.declared.Size.TheVariants as sizes
use Rattle.numbered_arguments.specs.declared.Kind.{Kind}
use Rattle.numbered_arguments.specs.declared.Kind.TheVariants.{Character, Text, Integer, Unsigned, Float, Vector}
use Rattle.numbered_arguments.specs.declared.Kind.TheVariants.{Pointer, Count, Object, Date}
use Rattle.numbered_arguments.specs.declared.Size.TheVariants.{Plain, Short, Long, LongLong, Native}
use Rattle.objc_format.specs.declared.kinds.Taken.{Taken}
use Rattle.objc_format.specs.declared.kinds.Taken.TheVariants as takes
use Rattle.objc_format.specs.ObjcKinds.{stand_in}

-- what a kind stands for
abbrev behind : Kind → Option Taken
behind (Integer Plain) = Some (takes.C (c.Signed sizes.Plain))
behind (Integer Short) = Some (takes.C (c.Signed sizes.Short))
behind (Integer Long) = Some (takes.C (c.Signed sizes.Long))
behind (Integer LongLong) = Some (takes.C (c.Signed sizes.LongLong))
behind (Integer Native) = Some (takes.C (c.Signed sizes.SizeT))
behind (Count Short) = Some (takes.C (c.Signed sizes.Byte))
behind (Count Long) = Some (takes.C (c.Signed sizes.Max))
behind (Count LongLong) = Some (takes.C (c.Signed sizes.PtrDiff))
behind (Unsigned Plain) = Some (takes.C (c.Unsigned sizes.Plain))
behind (Unsigned Short) = Some (takes.C (c.Unsigned sizes.Short))
behind (Unsigned Long) = Some (takes.C (c.Unsigned sizes.Long))
behind (Unsigned LongLong) = Some (takes.C (c.Unsigned sizes.LongLong))
behind (Unsigned Native) = Some (takes.C (c.Unsigned sizes.SizeT))
behind (Float Short) = Some (takes.C (c.Unsigned sizes.Byte))
behind (Float Long) = Some (takes.C (c.Unsigned sizes.Max))
behind (Float Native) = Some (takes.C (c.Unsigned sizes.PtrDiff))
behind (Float Plain) = Some (takes.C c.Double)
behind (Float LongLong) = Some (takes.C c.LongDouble)
behind Character = Some (takes.C c.Char)
behind Date = Some (takes.C c.WideChar)
behind Text = Some (takes.C c.Text)
behind Vector = Some (takes.C c.WideText)
behind Pointer = Some (takes.C c.Pointer)
behind (Count Plain) = Some (takes.C (c.Count sizes.Plain))
behind Object = Some takes.Object
behind _ = None

abbrev found : Option Kind → Option Taken
found None = None
found (Some kind) = behind kind

signed_stands : (size : Size) (kind : Kind) → stand_in (takes.C (c.Signed size)) ≡ Some kind
    → behind kind ≡ Some (takes.C (c.Signed size))
signed_stands sizes.Plain kind e = sym (ap found e)
signed_stands sizes.Short kind e = sym (ap found e)
signed_stands sizes.Long kind e = sym (ap found e)
signed_stands sizes.LongLong kind e = sym (ap found e)
signed_stands sizes.SizeT kind e = sym (ap found e)
signed_stands sizes.Byte kind e = sym (ap found e)
signed_stands sizes.Max kind e = sym (ap found e)
signed_stands sizes.PtrDiff kind e = sym (ap found e)

unsigned_stands : (size : Size) (kind : Kind) → stand_in (takes.C (c.Unsigned size)) ≡ Some kind
    → behind kind ≡ Some (takes.C (c.Unsigned size))
unsigned_stands sizes.Plain kind e = sym (ap found e)
unsigned_stands sizes.Short kind e = sym (ap found e)
unsigned_stands sizes.Long kind e = sym (ap found e)
unsigned_stands sizes.LongLong kind e = sym (ap found e)
unsigned_stands sizes.SizeT kind e = sym (ap found e)
unsigned_stands sizes.Byte kind e = sym (ap found e)
unsigned_stands sizes.Max kind e = sym (ap found e)
unsigned_stands sizes.PtrDiff kind e = sym (ap found e)

counted_stands : (size : Size) (kind : Kind) → stand_in (takes.C (c.Count size)) ≡ Some kind
    → behind kind ≡ Some (takes.C (c.Count size))
counted_stands sizes.Plain kind e = sym (ap found e)
counted_stands _ kind e = absurd (cc e)

stands : (taken : Taken) (kind : Kind) → stand_in taken ≡ Some kind → behind kind ≡ Some taken
stands (takes.C (c.Signed size)) kind e = signed_stands size kind e
stands (takes.C (c.Unsigned size)) kind e = unsigned_stands size kind e
stands (takes.C c.Double) kind e = sym (ap found e)
stands (takes.C c.LongDouble) kind e = sym (ap found e)
stands (takes.C c.Char) kind e = sym (ap found e)
stands (takes.C c.WideChar) kind e = sym (ap found e)
stands (takes.C c.Text) kind e = sym (ap found e)
stands (takes.C c.WideText) kind e = sym (ap found e)
stands (takes.C c.Pointer) kind e = sym (ap found e)
stands (takes.C (c.Count size)) kind e = counted_stands size kind e
stands takes.Object kind e = sym (ap found e)

pub own_kind : (one other : Taken) (kind : Kind) → stand_in one ≡ Some kind → stand_in other ≡ Some kind → one ≡ other
own_kind one other kind e f =
    let same : Some one ≡ Some other = sym (stands one kind e) ∙ stands other kind f in
    cc same
