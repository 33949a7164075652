use Rattle.std.proofs.Common.{subst}
use Rattle.std.proofs.lemmas.Bool.{not-true, not-false}
use Rattle.po_checks.specs.Checks.{HasSystemDependentText}
use Rattle.po_checks.specs.Found.{FirstLine}
use Rattle.po_checks.specs.Kept.{kept_entries}
use Rattle.po_checks.proofs.Faults.{unchecked, from_eleventh}
use Rattle.po_checks.proofs.findings.Findings.fault.Goals as goal

pub returns-then-not-options : goal.returns-then-not-options
returns-then-not-options c = λ es h has at.
    unchecked c.args.options es (not-true c.args.options.checked c.if-not-options.true)
    (subst (FirstLine HasSystemDependentText (kept_entries c.args.options es)) c.in_default.is h.dependent)

pub returns : goal.returns
returns c = λ es h has at.
    from_eleventh c.args.options es c.checked_fault.result (subst
    (FirstLine HasSystemDependentText (kept_entries c.args.options es)) c.in_default.is h.dependent)
    (c.checked_fault.ensures c.args.options es h (not-false c.args.options.checked c.if-not-options.false) has at)
