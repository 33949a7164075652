use Rattle.std.proofs.Common.{◌≡◌, ◌+◌, ◌++◌, [], List, ℕ, length, get_or, arith, ap, ◌∙◌, append_assoc}
use Rattle.std.proofs.lemmas.List.{drop_more}
use Rattle.mo_image.proofs.Writing.{piece_written}
use Rattle.mo_dependent.specs.Layout.{strings, word}
use Rattle.mo_dependent.proofs.Lengths.{length-strings}
use Rattle.mo_dependent.proofs.StaticStrings.{rows_lie}
use Rattle.mo_dependent.proofs.Steps.{length-pool_next, pairs_next}
use Rattle.mo_dependent.proofs.statics.push_strings.Goals as goal

pub push_word-requires : goal.push_word-requires
push_word-requires c =
    let ss = strings c.args.statics.now in
    let left = drop_more ss c.strings.i [] (omega (arith, length-strings c.args.statics.now)) in
    omega (arith, length-pool_next ss c.strings.i (get_or ss c.strings.i []) left)

pub strings-preserved : goal.strings-preserved
strings-preserved c =
    let ss = strings c.args.statics.now in
    let s = get_or ss c.strings.i [] in
    let at = c.strings.at in
    let left = drop_more ss c.strings.i [] (omega (arith, length-strings c.args.statics.now)) in
    let len : c.string_len-len.result ≡ length s = c.string_len-len.ensures in
    let next : at + (c.string_len-len.result + 1) ≡ at + length s + 1 = omega arith in
    let grown : c.push_word-in-strings.new.out.items ≡ c.strings.out.items ++ (word (length s) ++ word at) =
    c.in_ok-push_word-2.ensures ∙ ap (λ (x : List ℕ). x ++ word at)
    (c.in_ok-push_word.ensures ∙ ap (λ (n : ℕ). c.strings.out.items ++ word n) len)
    ∙ append_assoc c.strings.out.items (word (length s)) (word at) in
    record {
      told = rw next (piece_written c.strings.out.items _ _ _ (word (length s) ++ word at) _ c.strings.invariant.told
          (pairs_next ss c.strings.i s left at) grown);
      placed = omega (arith, length-pool_next ss c.strings.i s left);
    }

pub overflow_mul-i-end : goal.overflow_mul-i-end
overflow_mul-i-end c = let h = rows_lie _ c.len-i-end.ensures.lawful in omega arith
