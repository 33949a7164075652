use Rattle.mo_image.proofs.Kit.{◌≡◌, ◌+◌, ◌++◌, List, ℕ, length, arith, ap, ◌∙◌, append_assoc, string_of}
use Rattle.mo_image.specs.MoFile.{word}
use Rattle.mo_image.proofs.Writing.{piece_written, length-pool_split, pairs_split}
use Rattle.mo_image.proofs.writer.push_pairs.Goals as goal

pub string_len-len-requires : goal.string_len-len-requires
string_len-len-requires g c =
    let m = g.L.EntryList.entries c.args.list.now in
    omega (
      arith,
      c.loop-i.invariant.placed,
      c.requires,
      length-pool_split c.args.side m c.loop-i.i c.strings_at.result
          c.strings_at.ensures,
    )

pub overflow_cast-len : goal.overflow_cast-len
overflow_cast-len g c =
    let m = g.L.EntryList.entries c.args.list.now in
    omega (
      arith,
      c.loop-i.invariant.placed,
      c.requires,
      c.string_len-len.ensures,
      length-pool_split c.args.side m
          c.loop-i.i c.strings_at.result c.strings_at.ensures,
    )

pub overflow_add-at : goal.overflow_add-at
overflow_add-at g c =
    let m = g.L.EntryList.entries c.args.list.now in
    omega (
      arith,
      c.loop-i.invariant.placed,
      c.requires,
      c.string_len-len.ensures,
      length-pool_split c.args.side m
          c.loop-i.i c.strings_at.result c.strings_at.ensures,
    )

pub overflow_add-at-in-loop-i : goal.overflow_add-at-in-loop-i
overflow_add-at-in-loop-i g c =
    let m = g.L.EntryList.entries c.args.list.now in
    omega (
      arith,
      c.loop-i.invariant.placed,
      c.requires,
      c.string_len-len.ensures,
      length-pool_split c.args.side m
          c.loop-i.i c.strings_at.result c.strings_at.ensures,
    )

pub loop-i-preserved : goal.loop-i-preserved
loop-i-preserved g c =
    let m = g.L.EntryList.entries c.args.list.now in
    let e = c.strings_at.result in
    let s = string_of c.args.side e in
    let at = c.loop-i.at in
    let len : c.string_len-len.result ≡ length s = c.string_len-len.ensures in
    let next : at + (c.string_len-len.result + 1) ≡ at + length s + 1 = omega (arith, len) in
    let grown : c.push_word-in-loop-i.new.out.items ≡ c.loop-i.out.items ++ (word (length s) ++ word at) =
    c.in_ok-push_word-2.ensures ∙ ap (λ (x : List ℕ). x ++ word at)
    (c.in_ok-push_word.ensures ∙ ap (λ (n : ℕ). c.loop-i.out.items ++ word n) len)
    ∙ append_assoc c.loop-i.out.items (word (length s)) (word at) in
    record {
      told = rw next (piece_written c.loop-i.out.items _ _ c.push_word-in-loop-i.new.out.items
          (word (length s) ++ word at) _ c.loop-i.invariant.told
          (pairs_split c.args.side m c.loop-i.i e c.strings_at.ensures at) grown);
      placed = omega (
        arith,
        c.loop-i.invariant.placed,
        len,
        length-pool_split c.args.side m c.loop-i.i e
            c.strings_at.ensures,
      );
    }
