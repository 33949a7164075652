-- What is wrong with the formats of a PO text in any charset (GNU gettext manual, "msgfmt Invocation":
-- `--check-format`).
use Rattle.std.specs.Prelude.{ℕ, List}
use Rattle.any_charset.specs.Recoding.{GivesAny, GivesRecoded, RefusesAnyBy}
use Rattle.any_charset.specs.declared.fault.TextFault.{TextFault}
use Rattle.po_formats.specs.PlainFaults.{HasFaults, Refuses, Options, Fault}

-- the text is in another charset, and these are the faults of what it is decoded to
abbrev pub HasFaultsRecoded : List ℕ → Options → List Fault → Type 0
HasFaultsRecoded text options faults = GivesRecoded Refuses HasFaults text options faults

-- these are the faults of the text
abbrev pub HasFaultsAny : List ℕ → Options → List Fault → Type 0
HasFaultsAny text options faults = GivesAny Refuses HasFaults text options faults

-- why a text in any charset is refused
abbrev pub RefusesAny : List ℕ → Options → TextFault → Type 0
RefusesAny text options fault = RefusesAnyBy Refuses text options fault
