use Rattle.std.proofs.Common.{rules}
use Rattle.po_checks.proofs.formats.format_faults.Goals as goal

pub returns-then-not-is_c_format-clause-dependent : goal.returns-then-not-is_c_format-clause-dependent
returns-then-not-is_c_format-clause-dependent c = search rules

pub returns-then-not-is_c_format-clause-mismatch : goal.returns-then-not-is_c_format-clause-mismatch
returns-then-not-is_c_format-clause-mismatch c = search rules

pub returns-then-not-is_c_format-clause-no_memory : goal.returns-then-not-is_c_format-clause-no_memory
returns-then-not-is_c_format-clause-no_memory c = search rules
