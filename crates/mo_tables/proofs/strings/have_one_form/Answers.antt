use Rattle.mo_tables.proofs.Kit.{◌≡◌, ℕ, List, subst, refl, arith, All, take_all, All-more, Span, text_in, nuls}
use Rattle.mo_tables.proofs.GapLemmas.{count_nowhere, count_here}
use Rattle.mo_tables.proofs.strings.have_one_form.Goals as goal

abbrev NoneIn : List ℕ → Span → Type 0
NoneIn bytes span = nuls (text_in bytes span) ≡ 0

abbrev nowhere : Span
nowhere = record { start = 0; len = 0 }

pub returns-then-to-end : goal.returns-then-to-end
returns-then-to-end c = (
  λ e. absurd cc,
  λ all.
      let lies = c.requires c.spans.span-index nowhere c.spans-test.true in
      let counted = rw (c.start.ensures, c.end-end.ensures) at
      (count_here c.args.bytes.now 0 c.start.result c.end-end.result
      c.searched-gap.result c.searched-gap.ensures (omega (arith, c.start.ensures, c.end-end.ensures))
      (omega (arith, c.end-end.ensures, lies)) (omega (arith, c.if-to-end.true, c.to.ensures))) in
      absurd (omega (arith, counted, all c.spans.span-index nowhere c.spans-test.true)),
)

pub spans-preserved : goal.spans-preserved
spans-preserved c = record {
  gap = c.searched-gap.ensures.lacks;
  none = All-more (NoneIn c.args.bytes.now) c.args.spans.now c.spans.span-index nowhere c.spans-test.true
      c.spans.invariant.none
      (let lies = c.requires c.spans.span-index nowhere c.spans-test.true in
      rw (c.start.ensures, c.end-end.ensures) at (count_nowhere c.args.bytes.now 0 c.start.result c.end-end.result
      c.searched-gap.result c.searched-gap.ensures (omega (arith, c.start.ensures, c.end-end.ensures))
      (omega (arith, c.end-end.ensures, lies)) (omega (arith, c.if-to-end.false, c.to.ensures))));
}

pub returns : goal.returns
returns c = (
  λ e. subst (All (NoneIn c.args.bytes.now)) (take_all c.spans.span-index c.args.spans.now c.spans-test.false)
      c.spans.invariant.none,
  λ all. refl,
)
