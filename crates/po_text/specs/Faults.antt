-- Running out of memory, which has no line, next to the faults of a text.
use Rattle.std.specs.Prelude.{ℕ}
use Rattle.po_text.specs.declared.fault.PoKind.{PoKind}
use Rattle.po_text.specs.declared.fault.PoKind.TheVariants.{Memory}
use Rattle.po_text.specs.declared.fault.PoFault.{PoFault}

-- the fault when memory runs out; it has no line
abbrev pub out_of_memory : PoFault
out_of_memory = record { kind = Memory; line = 0 }

-- a fault of this kind, on this line if it has one
abbrev pub fault_on : PoKind → ℕ → PoFault
fault_on Memory line = out_of_memory
fault_on kind line = record { kind = kind; line = line }
