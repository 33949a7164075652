use Rattle.mo_tables.proofs.Kit.{ℕ, List, subst, All, IsUtf8, take_all, All-more, Row, text_in}
use Rattle.mo_tables.proofs.strings.translations_utf8.Goals as goal

abbrev Utf8In : List ℕ → Row → Type 0
Utf8In bytes row = IsUtf8 (text_in bytes row.translation)

pub returns-in_default : goal.returns-in_default
returns-in_default c all =
    let wrong = rw (c.start.ensures, c.end.ensures) at c.in_default.ensures in
    wrong (all c.rows.row-index _ c.rows-test.true)

pub rows-preserved : goal.rows-preserved
rows-preserved c = record {
  stretch = c.in-Some.ensures.0;
  utf8 = All-more (Utf8In c.args.bytes.now) c.args.rows.now c.rows.row-index _ c.rows-test.true c.rows.invariant.utf8
      (rw (c.start.ensures, c.end.ensures) at c.in-Some.ensures.1);
}

pub returns : goal.returns
returns c = (
  c.rows.invariant.stretch,
  subst (All (Utf8In c.args.bytes.now)) (take_all c.rows.row-index c.args.rows.now c.rows-test.false)
      c.rows.invariant.utf8,
)
