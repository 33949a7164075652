use Rattle.std.proofs.Common.{sym, subst}
use Rattle.po_header.specs.Rules.{rule_of}
use Rattle.po_checks.specs.Checks.{HasOtherArguments}
use Rattle.po_checks.specs.Found.{FailsFrom, FirstFault, FirstLine}
use Rattle.po_checks.specs.Kept.{kept_entries}
use Rattle.po_checks.specs.Fails.{RuleRefuses}
use Rattle.po_checks.proofs.Faults.{by_the_rule, by_arguments, by_last}
use Rattle.po_checks.proofs.findings.Findings.checked_fault.Goals as goal

pub returns-in-Some : goal.returns-in-Some
returns-in-Some c = λ o es h checked has at.
    by_the_rule o es (rule_of c.args.rule.now) c.args.header_line c.in-Some.fault.kind c.in-Some.fault.line
    (record { checked = checked; rule_is = has; at_is = at })
    (c.in-Some.ensures (kept_entries o es) (h.plurals checked))

pub returns-in-Some-mismatch : goal.returns-in-Some-mismatch
returns-in-Some-mismatch c = λ o es h checked has at.
    by_arguments o es (rule_of c.args.rule.now) c.args.header_line c.in-Some-mismatch.line
    (record { checked = checked; rule_is = has; at_is = at })
    (subst (FirstFault (RuleRefuses (rule_of c.args.rule.now) (kept_entries o es) c.args.header_line)) c.in_default.is
    (c.fault.ensures (kept_entries o es) (h.plurals checked)))
    (subst (FirstLine HasOtherArguments (kept_entries o es)) c.in-Some-mismatch.is h.mismatch)

pub returns-in-None : goal.returns-in-None
returns-in-None c = λ o es h checked has at.
    subst (FirstFault (FailsFrom 12 o es)) (sym c.fault_at.ensures)
    (by_last o es (rule_of c.args.rule.now) c.args.header_line c.args.self.now.newlines
    (record { checked = checked; rule_is = has; at_is = at })
    (subst (FirstFault (RuleRefuses (rule_of c.args.rule.now) (kept_entries o es) c.args.header_line)) c.in_default.is
    (c.fault.ensures (kept_entries o es) (h.plurals checked)))
    (subst (FirstLine HasOtherArguments (kept_entries o es)) c.in-None.is h.mismatch) (h.newlines checked))
