use Rattle.std.proofs.Common.{◌≡◌, ℕ, ◌+◌, ◌-◌, ◌<◌, ◌^◌, ◌++◌, List, [], Bool, length}
use Rattle.std.proofs.Common.{get_or, take, drop, Option, Some, None, sym, ap, ◌∙◌, subst, arith}
use Rattle.std.specs.Prelude.{IsTrue, ◌↔◌, slice_get, option_map}
use Rattle.std.proofs.lemmas.List.{append-nil, length-map}
use Rattle.mo_segments.specs.Machine.{value_text}
use Rattle.mo_segments.specs.declared.machine.Value.{Value}
use Rattle.mo_segments.specs.Descriptors.{GoesOn, Knows, RowLies, PieceLies, piece, piece_len, known_text}
use Rattle.mo_segments.specs.Descriptors.{texts_of, segment_after}
use Rattle.mo_segments.specs.Expanding.{descriptor_at}
use Rattle.mo_segments.proofs.Rows.{goes_on_more, text_more, start_more, knows_more, knows_no_more, value_at}
use Rattle.mo_segments.proofs.descriptors.expand.Goals as goal
use Rattle.mo_segments.proofs.descriptors.expand.Goals.{in-Some+in_ok-push_to-in-Some, in-None}

pub rows-preserved : goal.rows-preserved
rows-preserved g c =
    let d = descriptor_at g.T.ByteOrder.number_of c.args.bytes.now (texts_of c.args.values.now) c.args.at in
    let k = c.rows.k in
    let segment : c.word-segment.result ≡ segment_after d k = c.word-segment.ensures.value in
    let len : c.word-len.result ≡ piece_len d k = c.word-len.ensures.value in
    let row : RowLies d k = omega (arith, c.rows-test.true, c.if-bytes-at.false) in
    let lies : PieceLies d k = omega (arith, c.rows.invariant.start_is, len, c.if-bytes-start.false) in
    let known_segment : segment_after d k < length (texts_of c.args.values.now) = omega (
      arith,
      segment,
      c.if-values-segment.false,
      length-map c.args.values.now (λ (w : Option Value). option_map value_text w),
    ) in
    let short : c.word-segment.result < length c.args.values.now = omega (arith, c.if-values-segment.false) in
    let before : GoesOn d (k + 1) = goes_on_more d k c.rows.invariant.before row lies known_segment
    (λ e. c.if-segment-eq-NO_SEGMENT.false (segment ∙ e)) in
    let start = start_more d k c.rows.start c.word-len.result c.rows.invariant.start_is len in
    let small : c.rows.start + c.word-len.result < 2 ^ 33 = omega (arith, c.if-bytes-start.false, c.requires.short) in
    let size : c.rows.start + c.word-len.result - c.rows.start ≡ piece_len d k = omega (arith, len) in
    let cut : take (c.rows.start + c.word-len.result - c.rows.start) (drop c.rows.start c.args.bytes.now) ≡ piece d k
    = ap (λ (n : ℕ). take n (drop c.rows.start c.args.bytes.now)) size
    ∙ ap (λ (s : ℕ). take (piece_len d k) (drop s c.args.bytes.now)) c.rows.invariant.start_is in
    elim c.match-values-segment.branch [
      | in-Some+in_ok-push_to-in-Some w ↦
          let is : get_or c.args.values.now c.word-segment.result None ≡ Some w.in-Some.value = w.in-Some.is in
          let at = value_at c.args.values.now c.word-segment.result (Some w.in-Some.value) short is in
          let found : slice_get d.values (segment_after d k) ≡ Some (Some (value_text w.in-Some.value)) =
          subst (λ s. slice_get d.values s ≡ Some (Some (value_text w.in-Some.value))) segment at in
          record {
            before = before;
            text_is = ap (λ v. v.items) w.text-is ∙ w.in_ok-push_to-in-Some.ensures
                ∙ ap (λ (x : List ℕ). x ++ value_text w.in-Some.value) c.in_ok-extend_from_slice.ensures.items
                ∙ text_more d k c.rows.text.items _ (value_text w.in-Some.value) c.rows.invariant.text_is cut
                (sym (ap known_text found));
            start_is = start;
            small = small;
            knows = subst (λ (b : Bool). IsTrue b ↔ Knows d (k + 1)) (sym w.known-is)
                (knows_more d k c.rows.known (value_text w.in-Some.value) c.rows.invariant.knows found);
          }
      | in-None w ↦
          let is : get_or c.args.values.now c.word-segment.result None ≡ None = w.in-None.is in
          let at = value_at c.args.values.now c.word-segment.result None short is in
          let found : slice_get d.values (segment_after d k) ≡ Some None =
          subst (λ s. slice_get d.values s ≡ Some None) segment at in
          record {
            before = before;
            text_is = ap (λ v. v.items) w.text-is ∙ c.in_ok-extend_from_slice.ensures.items
                ∙ sym (append-nil (c.rows.text.items ++ _))
                ∙ text_more d k c.rows.text.items _ [] c.rows.invariant.text_is cut (sym (ap known_text found));
            start_is = start;
            small = small;
            knows = subst (λ (b : Bool). IsTrue b ↔ Knows d (k + 1)) (sym w.known-is) (knows_no_more d k found);
          }
    ]
