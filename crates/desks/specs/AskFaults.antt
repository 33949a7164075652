-- The fault of a service in which a query got no answer.
use Rattle.live_versions.specs.declared.fault.AskFault.{AskFault}
use Rattle.live_versions.specs.declared.fault.AskFault.TheVariants as ask_fault
use Rattle.desks.specs.declared.desk.ServeFault.{ServeFault}
use Rattle.desks.specs.declared.desk.ServeFault.TheVariants.{Closed, Memory}

-- the store is closed, or memory ran out, as the reader says
abbrev pub of_ask : AskFault → ServeFault
of_ask ask_fault.Closed = Closed
of_ask ask_fault.Memory = Memory
