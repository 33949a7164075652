use Rattle.mo_tables.proofs.Kit.{ℕ, List, subst, refl, All, take_all, All-more, Row, HasFewSeparators, text_in}
use Rattle.mo_tables.proofs.strings.keys_have_few_separators.Goals as goal

abbrev FewIn : List ℕ → Row → Type 0
FewIn bytes row = HasFewSeparators (text_in bytes row.original)

pub returns-in_default : goal.returns-in_default
returns-in_default c = (
  λ e. absurd cc,
  λ all. absurd ((rw (c.start.ensures, c.end.ensures) at c.in_default.ensures)
      (all c.rows.row-index _ c.rows-test.true)),
)

pub rows-preserved : goal.rows-preserved
rows-preserved c = record {
  known = c.in-Some.ensures.0;
  few = All-more (FewIn c.args.bytes.now) c.args.rows.now c.rows.row-index _ c.rows-test.true c.rows.invariant.few
      (rw (c.start.ensures, c.end.ensures) at c.in-Some.ensures.1);
}

pub returns : goal.returns
returns c = (
  λ e. subst (All (FewIn c.args.bytes.now)) (take_all c.rows.row-index c.args.rows.now c.rows-test.false)
      c.rows.invariant.few,
  λ all. refl,
)
