use Rattle.std.proofs.Common.{ℕ, ◌-◌, ◌<◌, ◌++◌, List, take, drop, length, ap, ◌∙◌, arith}
use Rattle.mo_dependent.specs.Splits.{name_at}
use Rattle.mo_segments.specs.Machine.{value, value_text}
use Rattle.dependent_files.proofs.Expanding.{lies_next, lies_within, next}
use Rattle.dependent_files.proofs.here.expanded.Goals as goal

pub name_at-requires-clause-within : goal.name_at-requires-clause-within
name_at-requires-clause-within c =
    let text = c.args.text.now in
    omega (
      arith,
      ap length c.as_slice-bytes.ensures.value,
      c.len-i-end.ensures,
      lies_within text.splits.items c.splits.i c.index-split.result.now
          (omega (arith, c.splits-test.true, c.len-i-end.ensures)) c.index-split.ensures text.bytes.items
          c.splits.from c.splits.invariant.lies,
    )

pub slice_bounds-extend_from_slice-end : goal.slice_bounds-extend_from_slice-end
slice_bounds-extend_from_slice-end c =
    let text = c.args.text.now in
    omega (
      arith,
      ap length c.as_slice-bytes.ensures.value,
      lies_within text.splits.items c.splits.i c.index-split.result.now
          (omega (arith, c.splits-test.true, c.len-i-end.ensures)) c.index-split.ensures text.bytes.items
          c.splits.from c.splits.invariant.lies,
    )

pub overflow_add-from : goal.overflow_add-from
overflow_add-from c =
    let text = c.args.text.now in
    omega (
      arith,
      text.bytes.small,
      lies_within text.splits.items c.splits.i c.index-split.result.now
          (omega (arith, c.splits-test.true, c.len-i-end.ensures)) c.index-split.ensures text.bytes.items
          c.splits.from c.splits.invariant.lies,
    )

pub splits-preserved : goal.splits-preserved
splits-preserved c =
    let text = c.args.text.now in
    let s = c.index-split.result.now in
    let from = c.splits.from in
    let lt : c.splits.i < length text.splits.items = omega (arith, c.splits-test.true, c.len-i-end.ensures) in
    record {
      told = next text.splits.items c.splits.i s lt c.index-split.ensures text.bytes.items c.splits.out.items
          c.push_to.new.text.items from _ c.in-Some.value c.splits.invariant.told
          (c.in-Some.ensures ∙ ap value (c.name_at.ensures
          ∙ ap (λ (b : List ℕ). name_at b s) c.as_slice-bytes.ensures.value))
          (c.in_ok-push_to.ensures ∙ ap (λ (b : List ℕ). b ++ value_text c.in-Some.value)
          (c.in_ok-extend_from_slice.ensures.items ∙ ap (λ (b : List ℕ). c.splits.out.items
          ++ take (s.start - from) (drop from b))
          c.as_slice-bytes.ensures.value));
      lies = (lies_next text.splits.items c.splits.i s lt c.index-split.ensures text.bytes.items from
          c.splits.invariant.lies).2;
    }
