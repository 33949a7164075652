use Rattle.std.proofs.Common.{rules, ◌+◌, ◌<◌, ◌≤◌, length, refl, sym, ap, subst, arith}
use Rattle.mo_dependent.specs.Splits.{LieFrom}
use Rattle.mo_dependent.proofs.Primes.{true_and_false}
use Rattle.mo_dependent.proofs.Steps.{at_split, drop_found}
use Rattle.mo_dependent.proofs.split.is_split.Goals as goal

pub returns-then-not-lies : goal.returns-then-not-lies
returns-then-not-lies c =
    let s = c.split_at-split.result in
    let from = c.splits.from in
    let no : (from ≤ s.start) × (0 < s.len) × (s.start + s.len ≤ length c.as_slice-len.result.now) → ⊥
    = search rules in (
      (λ e. absurd (true_and_false _ e refl)),
      (λ all.
          let h = at_split c.args.text.now from c.splits.i s c.split_at-split.ensures (c.splits.invariant.needed all) in
          absurd (no (h.begins, h.some, omega (arith, h.within, ap length c.as_slice-len.ensures.value)))),
    )

pub splits-preserved : goal.splits-preserved
splits-preserved c =
    let text = c.args.text.now.bytes.items in
    let ss = c.args.text.now.splits.items in
    let s = c.split_at-split.result in
    let from = c.splits.from in
    let is : (from ≤ s.start) × (0 < s.len) × (s.start + s.len ≤ length c.as_slice-len.result.now) = search rules in
    record {
      enough = λ left. c.splits.invariant.enough (subst (LieFrom text from)
          (sym (drop_found ss c.splits.i s c.split_at-split.ensures)) (is.0, is.1, left));
      needed = λ all. (at_split c.args.text.now from c.splits.i s c.split_at-split.ensures
          (c.splits.invariant.needed all)).later;
      within = omega (arith, is.2, ap length c.as_slice-len.ensures.value);
    }
