use Rattle.std.proofs.Common.{◌≡◌, length, arith, sym, refl, ◌∙◌}
use Rattle.std.proofs.lemmas.Bool.{false≢true}
use Rattle.c_macros.proofs.ListLemmas.{no_index, wrong_has_none, row_next, row_again}
use Rattle.c_macros.proofs.requests.by_number.Goals as goal
use Rattle.c_macros.proofs.requests.by_number.Goals.{then-index-len+in_ok-push, else-index-len+else-not-is_at}

pub returns-in_default-clause-err : goal.returns-in_default-clause-err
returns-in_default-clause-err c kinds all = no_index c.args.asked.now c.asked.request-index _ kinds c.asked-test.true
    c.in_default.ensures all

pub returns-then-not-is_at-clause-err : goal.returns-then-not-is_at-clause-err
returns-then-not-is_at-clause-err c kinds all =
    let len : c.len.result ≡ length c.asked.kinds.items = omega (arith, c.len.ensures, c.asked.kinds.ok.0) in
    wrong_has_none c.args.asked.now c.asked.request-index c.in-Some.index _ c.asked.kinds.items kinds c.asked-test.true
    c.requires.rising c.asked.invariant c.in-Some.ensures
    (λ e. c.if-index-len.false (e ∙ sym len)) (λ e. false≢true (c.if-not-is_at.ensures.1 (rw c.deref.ensures.value e)))
    all

pub asked-preserved : goal.asked-preserved
asked-preserved c =
    let len : c.len.result ≡ length c.asked.kinds.items = omega (arith, c.len.ensures, c.asked.kinds.ok.0) in
    elim c.if-index-len.branch [
      | then-index-len+in_ok-push w ↦ rw w.kinds-is (row_next c.args.asked.now c.asked.request-index c.in-Some.index _
          c.asked.kinds.items _ c.asked-test.true c.asked.invariant c.in-Some.ensures (w.if-index-len.true ∙ len)
          w.in_ok-push.ensures.items)
      | else-index-len+else-not-is_at w ↦ rw w.kinds-is (row_again c.args.asked.now c.asked.request-index
          c.in-Some.index _ c.asked.kinds.items c.asked-test.true c.asked.invariant c.in-Some.ensures
          (rw w.deref.ensures.value at (w.if-not-is_at.ensures.0 refl)))
    ]
