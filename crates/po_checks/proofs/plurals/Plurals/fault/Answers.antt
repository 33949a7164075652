use Rattle.std.proofs.Common.{sym, ◌∙◌, subst}
use Rattle.po_checks.specs.Checks.{IsPlural}
use Rattle.po_checks.specs.Found.{FirstFault, FirstLine}
use Rattle.po_checks.specs.Fails.{RuleRefuses}
use Rattle.po_header.specs.Rule.{Absent}
use Rattle.po_checks.proofs.Faults.{by_absence, bad_rule}
use Rattle.po_checks.proofs.plurals.Plurals.fault.Goals as goal

pub returns-in-Given : goal.returns-in-Given
returns-in-Given c = λ entries h. rw c.in-Given.is (c.fault_by.ensures entries h)

pub returns-in-Absent : goal.returns-in-Absent
returns-in-Absent c = λ entries h. rw c.in-Absent.is (subst (FirstFault (RuleRefuses Absent entries c.args.header_line))
    (sym c.fault_at.ensures)
    (by_absence entries c.args.header_line c.line.result (subst (FirstLine IsPlural entries) (sym c.line.ensures)
    h.first)))

pub returns-in-Some : goal.returns-in-Some
returns-in-Some c = λ entries h. rw c.in-Broken.is (bad_rule entries c.args.header_line c.in-Some.field-0
    (subst (FirstLine IsPlural entries) (sym c.line-in-Broken.ensures ∙ c.in-Some.is) h.first))
