use Rattle.std.proofs.Common.{sym, ◌∙◌, inl, inr}
use Rattle.std.proofs.lemmas.Bool.{false≢true}
use Rattle.po_checks.proofs.Checking.{newlines_are, are_newlines, not_empty}
use Rattle.po_checks.proofs.newlines.newlines_differ.Goals as goal

pub returns-then-plural_differs : goal.returns-then-plural_differs
returns-then-plural_differs c = (
  (λ t. newlines_are c.args.entry.now (not_empty c.id.result.now c.args.entry.now.id c.is_empty.result c.id.ensures
      c.is_empty.ensures c.if-not-is_empty.true) (inl (c.plural_differs.ensures.0 t))),
  (λ h. c.if-plural_differs.true),
)

pub returns-else-plural_differs : goal.returns-else-plural_differs
returns-else-plural_differs c = (
  (λ t. newlines_are c.args.entry.now (not_empty c.id.result.now c.args.entry.now.id c.is_empty.result c.id.ensures
      c.is_empty.ensures c.if-not-is_empty.true) (inr (c.form_differs.ensures.0 t))),
  (λ h. elim (are_newlines c.args.entry.now h) [
    | inl some ↦ absurd (false≢true (sym c.if-plural_differs.false ∙ c.plural_differs.ensures.1 some))
    | inr some ↦ c.form_differs.ensures.1 some
  ]),
)
