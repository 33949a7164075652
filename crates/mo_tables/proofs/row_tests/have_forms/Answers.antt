use Rattle.mo_tables.proofs.Kit.{subst, sym, All, RowLies, HasForms}
use Rattle.mo_tables.specs.Rows.{LiesIn}
use Rattle.mo_tables.proofs.RowSweeps.{there, back, forms, alone_from, alone_to, alone_lie, Once, OneForm, Alone}
use Rattle.mo_tables.proofs.row_tests.have_forms.Goals as goal

pub without_plural-requires : goal.without_plural-requires
without_plural-requires c = rw c.deref.ensures.value (λ k d lt.
    (there (RowLies c.args.bytes.now) c.args.rows.items c.by_originals-rows.result.items c.by_originals-rows.ensures
    c.requires
    k d lt).0)

pub returns-in_default : goal.returns-in_default
returns-in_default c = (
  λ e. absurd cc,
  λ all.
      let wrong = rw (c.in_default.is, c.deref.ensures.value) at c.in_ok-spans.ensures in
      absurd (wrong (λ k d lt. (there (HasForms c.args.bytes.now) c.args.rows.items c.by_originals-rows.result.items
      c.by_originals-rows.ensures all k d lt).plurals)),
)

pub have_one_form-requires : goal.have_one_form-requires
have_one_form-requires c =
    let bytes = c.args.bytes.now in
    let rows = c.by_originals-rows.result.items in
    let found = rw (c.in-Some.is, c.deref.ensures.value) at c.in_ok-spans.ensures in
    rw c.deref-2.ensures.value (there (LiesIn bytes) c.in-Some.spans.items c.by_offsets-spans.result.items
    c.by_offsets-spans.ensures (subst (All (LiesIn bytes)) (sym found.1) (alone_lie bytes rows
    (there (RowLies bytes) c.args.rows.items rows c.by_originals-rows.ensures c.requires))))

pub returns : goal.returns
returns c =
    let bytes = c.args.bytes.now in
    let rows = c.by_originals-rows.result.items in
    let moved = c.by_originals-rows.ensures in
    let spans = c.in-Some.spans.items in
    let offsets = c.by_offsets-spans.result.items in
    let found = rw (c.in-Some.is, c.deref.ensures.value) at c.in_ok-spans.ensures in
    let says = rw c.deref-2.ensures.value at c.have_one_form.ensures in (
      λ e. forms bytes c.args.rows.items (back (Once bytes) c.args.rows.items rows moved found.0)
          (back (Alone bytes) c.args.rows.items rows moved (alone_from bytes rows (subst (All (OneForm bytes)) found.1
          (back (OneForm bytes) spans offsets c.by_offsets-spans.ensures (says.0 e))))),
      λ all. says.1 (there (OneForm bytes) spans offsets c.by_offsets-spans.ensures (subst (All (OneForm bytes))
          (sym found.1)
          (alone_to bytes rows (λ k d lt. (there (HasForms bytes) c.args.rows.items rows moved all k d lt).alone)))),
    )
