use Rattle.std.proofs.Common.{◌-◌, ◌++◌, List, ℕ, length, take, drop, ap, ◌∙◌, arith}
use Rattle.mo_image.proofs.Writing.{piece_written}
use Rattle.mo_dependent.proofs.Steps.{at_split, pieces_next}
use Rattle.mo_dependent.proofs.descriptors.push_text.Goals as goal

pub slice_bounds-extend_from_slice-end : goal.slice_bounds-extend_from_slice-end
slice_bounds-extend_from_slice-end c =
    let h = at_split c.args.text.now c.splits.from c.splits.i _ c.split_at-split.ensures c.splits.invariant.lies in
    omega (arith, ap length c.as_slice-bytes.ensures.value)

pub overflow_add-from : goal.overflow_add-from
overflow_add-from c =
    let h = at_split c.args.text.now c.splits.from c.splits.i _ c.split_at-split.ensures c.splits.invariant.lies in
    omega arith

pub splits-preserved : goal.splits-preserved
splits-preserved c =
    let text = c.args.text.now in
    let s = c.split_at-split.result in
    let from = c.splits.from in
    record {
      told = piece_written c.splits.out.items _ _ _ (take (s.start - from) (drop from text.bytes.items)) _
          c.splits.invariant.told (pieces_next text from c.splits.i s c.split_at-split.ensures)
          (c.in_ok-extend_from_slice.ensures.items ∙ ap (λ (b : List ℕ). c.splits.out.items
          ++ take (s.start - from) (drop from b)) c.as_slice-bytes.ensures.value);
      lies = (at_split text from c.splits.i s c.split_at-split.ensures c.splits.invariant.lies).later;
    }

pub slice_bounds-extend_from_slice-count : goal.slice_bounds-extend_from_slice-count
slice_bounds-extend_from_slice-count c =
    (at_split c.args.text.now c.splits.from c.splits.i _ c.split_at-split.ensures c.splits.invariant.lies).begins

pub slice_bounds-extend_from_slice-start : goal.slice_bounds-extend_from_slice-start
slice_bounds-extend_from_slice-start c =
    let h = at_split c.args.text.now c.splits.from c.splits.i _ c.split_at-split.ensures c.splits.invariant.lies in
    omega arith
