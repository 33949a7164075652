-- The cause that a step's fault is.
use Rattle.std.specs.Prelude.{Bool, true, false, if◌then◌else◌}
use Rattle.devices.specs.declared.input.InputFault.{InputFault}
use Rattle.devices.specs.declared.input.InputFault.TheVariants as input
use Rattle.po_checks.specs.declared.fault.LoadFault.{LoadFault}
use Rattle.po_checks.specs.declared.fault.LoadKind.{LoadKind}
use Rattle.po_checks.specs.declared.fault.LoadKind.TheVariants as load
use Rattle.msgfmt_steps.specs.declared.outcome.Cause.{Cause}
use Rattle.msgfmt_steps.specs.declared.outcome.Cause.TheVariants.{CannotRead, Refused, Memory}

-- of an INPUT that wasn't read
abbrev pub cause_of_input : InputFault → Cause
cause_of_input input.Unreadable = CannotRead
cause_of_input input.Memory = Memory

-- memory ran out
abbrev pub is_memory : LoadKind → Bool
is_memory load.Memory = true
is_memory _ = false

-- of a text that wasn't compiled
abbrev pub cause_of_load : LoadFault → Cause
cause_of_load fault = if is_memory fault.kind then Memory else Refused fault
