use Rattle.std.proofs.Common.{refl, ◌∙◌}
use Rattle.po_checks.proofs.SameTexts.{none_dependent, none_differs}
use Rattle.po_checks.proofs.formats.texts_are_same.Goals as goal

pub returns-clause-dependent : goal.returns-clause-dependent
returns-clause-dependent c = λ e.
    none_dependent c.args.entry.now (λ none. c.if-form_count-eq0.false (c.form_count.ensures.count ∙ none))
    (c.if-not-plural_is_same.ensures refl) (c.forms_are_same.ensures e)

pub returns-clause-mismatch : goal.returns-clause-mismatch
returns-clause-mismatch c = λ e.
    none_differs c.args.entry.now (c.if-not-plural_is_same.ensures refl) (c.forms_are_same.ensures e)
