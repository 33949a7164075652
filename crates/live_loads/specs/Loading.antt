-- The errors of each step of a load.
use Rattle.std.specs.Prelude.{⊤}
use Rattle.live_loads.specs.declared.fault.StoreFault.{StoreFault}
use Rattle.live_loads.specs.declared.fault.StoreFault.TheVariants.{Memory}

-- the fault of the bytes, or running out of memory, which says nothing of the bytes
abbrev pub OrMemory : (StoreFault → Type 0) → StoreFault → Type 0
OrMemory IsBytesFault Memory = ⊤
OrMemory IsBytesFault fault = IsBytesFault fault

-- bytes that weren't read have no fault
abbrev pub IsUnread : StoreFault → Type 0
IsUnread fault = ⊥
