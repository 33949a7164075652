use Rattle.std.proofs.Common.{◌≡◌, ◌+◌, ◌++◌, List, ℕ, length, arith, ap, ◌∙◌, append_assoc}
use Rattle.mo_image.specs.MoFile.{word}
use Rattle.mo_segments.specs.Writing.{side_of}
use Rattle.mo_segments.proofs.Parts.{piece_written, length-pool_split, pairs_split}
use Rattle.mo_segments.proofs.flat.push_pairs.Goals as goal

pub push_word-requires : goal.push_word-requires
push_word-requires c =
    let len : length c.of_side-len.result.now ≡ length (side_of c.args.which c.index-messages-i.result)
    = ap length c.of_side-len.ensures in
    omega (
      arith,
      c.messages.invariant.placed,
      c.requires,
      len,
      length-pool_split (side_of c.args.which) c.args.messages.now c.messages.i c.index-messages-i.result
          c.messages-test.true c.index-messages-i.is,
    )

pub messages-preserved : goal.messages-preserved
messages-preserved c =
    let f = side_of c.args.which in
    let s = f c.index-messages-i.result in
    let at = c.messages.at in
    let len : length c.of_side-len.result.now ≡ length s = ap length c.of_side-len.ensures in
    let next : at + (length c.of_side-len.result.now + 1) ≡ at + length s + 1 = omega (arith, len) in
    let grown : c.push_word-in-messages.new.out.items ≡ c.messages.out.items ++ (word (length s) ++ word at) =
    c.in_ok-push_word-2.ensures ∙ ap (λ (x : List ℕ). x ++ word at)
    (c.in_ok-push_word.ensures ∙ ap (λ (n : ℕ). c.messages.out.items ++ word n) len)
    ∙ append_assoc c.messages.out.items (word (length s)) (word at) in
    record {
      told = rw next (piece_written c.messages.out.items _ _ c.push_word-in-messages.new.out.items
          (word (length s) ++ word at) _ c.messages.invariant.told
          (pairs_split f c.args.messages.now c.messages.i c.index-messages-i.result c.messages-test.true
          c.index-messages-i.is at) grown);
      placed = omega (
        arith,
        c.messages.invariant.placed,
        len,
        length-pool_split f c.args.messages.now c.messages.i c.index-messages-i.result c.messages-test.true
            c.index-messages-i.is,
      );
    }
