-- Running out of memory as a refusal, and the kinds of refusal that come from the PO text itself.
use Rattle.po_text.specs.declared.PoKind.{PoKind}
use Rattle.po_text.specs.declared.PoKind.TheVariants as po
use Rattle.po_checks.specs.declared.fault.LoadFault.{LoadFault}
use Rattle.po_checks.specs.declared.fault.LoadKind.{LoadKind}
use Rattle.po_checks.specs.declared.fault.LoadKind.TheVariants.{TooLarge, NotUtf8, BadEscape, OpenString, BadWord}
use Rattle.po_checks.specs.declared.fault.LoadKind.TheVariants.{BadText, BadOrder, BadIndex, Memory}

-- the refusal after a failed allocation, which has no line
abbrev pub out_of_memory : LoadFault
out_of_memory = record { kind = Memory; line = 0 }

-- the kind of refusal for a fault of the PO text
abbrev pub kind_of : PoKind → LoadKind
kind_of po.TooLarge = TooLarge
kind_of po.NotUtf8 = NotUtf8
kind_of po.BadEscape = BadEscape
kind_of po.OpenString = OpenString
kind_of po.BadWord = BadWord
kind_of po.BadText = BadText
kind_of po.BadOrder = BadOrder
kind_of po.BadIndex = BadIndex
kind_of po.Memory = Memory
