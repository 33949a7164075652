-- Private: the refusals behind that of the charset.
use Rattle.std.specs.Prelude.{ℕ, Bool, true, false, if◌then◌else◌, Option, None, Some}
pub use Rattle.po_checks.specs.declared.fault.LoadFault.{LoadFault}
use Rattle.po_checks.specs.declared.fault.LoadKind.{LoadKind}
use Rattle.po_checks.specs.declared.fault.LoadKind.TheVariants.{SystemDependent, NoRule, BadRule, FormCount}
use Rattle.po_checks.specs.declared.fault.LoadKind.TheVariants.{PluralRange, FormatMismatch, NewlineMismatch}

abbrev pub is_late : LoadKind → Bool
is_late SystemDependent = true
is_late NoRule = true
is_late BadRule = true
is_late FormCount = true
is_late (PluralRange n) = true
is_late FormatMismatch = true
is_late NewlineMismatch = true
is_late _ = false

-- the kind is that of newlines, the last one
abbrev pub is_for_newlines : LoadKind → Bool
is_for_newlines NewlineMismatch = true
is_for_newlines _ = false

-- the first of two faults: one that was found, and different formats on a line, if there are any
abbrev pub with_mismatch : Option LoadFault → Option ℕ → Option LoadFault
with_mismatch fault None = fault
with_mismatch None (Some line) = Some (record { kind = FormatMismatch; line = line })
with_mismatch (Some fault) (Some line) =
    if is_for_newlines fault.kind then Some (record { kind = FormatMismatch; line = line }) else Some fault
