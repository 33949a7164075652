use Rattle.std.proofs.Common.{sym, ◌∙◌}
use Rattle.po_checks.proofs.Checking.{read_again, dependent_alone, dependent_both, mismatch_alone, mismatch_both}
use Rattle.po_checks.proofs.formats.flagged_faults.Goals as goal

pub returns-in_default-clause-dependent : goal.returns-in_default-clause-dependent
returns-in_default-clause-dependent c =
    dependent_alone c.args.entry.now c.in_ok-id.id c.in_ok-faults.faults.system_dependent
    c.with_text.result.system_dependent (sym c.in_default.ensures)
    (read_again c.id.result.now c.args.entry.now.id c.in_ok-id.id c.id.ensures c.in_ok-id.ensures)
    c.in_ok-faults.ensures.dependent c.with_text.ensures.dependent

pub returns-in_default-clause-mismatch : goal.returns-in_default-clause-mismatch
returns-in_default-clause-mismatch c =
    mismatch_alone c.args.entry.now c.in_ok-id.id c.in_ok-faults.faults.mismatch c.with_text.result.mismatch
    (sym c.in_default.ensures)
    (read_again c.id.result.now c.args.entry.now.id c.in_ok-id.id c.id.ensures c.in_ok-id.ensures)
    c.in_ok-faults.ensures.mismatch c.with_text.ensures.mismatch

pub returns-clause-dependent : goal.returns-clause-dependent
returns-clause-dependent c =
    dependent_both c.args.entry.now c.in-Some.plural.now c.in_ok-id.id c.in_ok-plural.plural
    c.in_ok-faults-2.faults.system_dependent c.with_text-2.result.system_dependent
    c.with_text-3.result.system_dependent (sym c.in-Some.ensures)
    (read_again c.id.result.now c.args.entry.now.id c.in_ok-id.id c.id.ensures c.in_ok-id.ensures)
    c.in_ok-plural.ensures c.in_ok-faults-2.ensures.dependent c.with_text-2.ensures.dependent
    c.with_text-3.ensures.dependent

pub returns-clause-mismatch : goal.returns-clause-mismatch
returns-clause-mismatch c =
    mismatch_both c.args.entry.now c.in-Some.plural.now c.in_ok-plural.plural c.in_ok-faults-2.faults.mismatch
    c.with_text-3.result.mismatch (sym c.in-Some.ensures)
    c.in_ok-plural.ensures c.in_ok-faults-2.ensures.mismatch
    (c.with_text-3.ensures.mismatch ∙ c.with_text-2.ensures.mismatch)
