use Rattle.std.proofs.Common.{sym, ◌∙◌, subst}
use Rattle.po_header.specs.Expr.{tree_of}
use Rattle.po_checks.specs.Checks.{HasOtherCount}
use Rattle.po_checks.specs.Found.{FirstLine}
use Rattle.po_checks.proofs.Faults.{plural_range, rule_passes}
use Rattle.po_checks.proofs.plurals.Plurals.fault_by.Goals as goal

pub returns-in-Some-first_without_form : goal.returns-in-Some-first_without_form
returns-in-Some-first_without_form c = λ entries h.
    plural_range c.args.nplurals (tree_of c.args.expr.now) entries c.args.header_line c.in-Some-first_without_form.n
    (subst (FirstLine (HasOtherCount c.args.nplurals) entries) (sym c.line_for.ensures ∙ c.in_default.is)
    (h.other c.args.nplurals)) c.in-Some-first_without_form.ensures

pub returns-in-None : goal.returns-in-None
returns-in-None c = λ entries h.
    rule_passes c.args.nplurals (tree_of c.args.expr.now) entries c.args.header_line
    (subst (FirstLine (HasOtherCount c.args.nplurals) entries) (sym c.line_for.ensures ∙ c.in_default.is)
    (h.other c.args.nplurals)) c.in-None.ensures
