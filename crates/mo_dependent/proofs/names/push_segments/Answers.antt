use Rattle.std.proofs.Common.{◌≡◌, ◌+◌, ◌++◌, List, ℕ, length, map, arith, ap, ◌∙◌, append_assoc}
use Rattle.mo_image.specs.MoFile.{word}
use Rattle.mo_image.proofs.Writing.{piece_written}
use Rattle.mo_dependent.proofs.Steps.{drop_found, length-pool_next, segments_next}
use Rattle.mo_dependent.proofs.names.push_segments.Goals as goal

pub push_word-requires : goal.push_word-requires
push_word-requires c =
    let names = map (λ n. n.now) c.args.names.now in
    let left = drop_found names c.names.i c.name_of.result.now c.name_of.ensures in
    omega (arith, length-pool_next names c.names.i c.name_of.result.now left)

pub names-preserved : goal.names-preserved
names-preserved c =
    let names = map (λ n. n.now) c.args.names.now in
    let s = c.name_of.result.now in
    let at = c.names.at in
    let left = drop_found names c.names.i c.name_of.result.now c.name_of.ensures in
    let grown : c.push_word-in-names.new.out.items ≡ c.names.out.items ++ (word (length s + 1) ++ word at) =
    c.in_ok-push_word-2.ensures ∙ ap (λ (x : List ℕ). x ++ word at) c.in_ok-push_word.ensures
    ∙ append_assoc c.names.out.items (word (length s + 1)) (word at) in
    record {
      told = piece_written c.names.out.items _ _ _ (word (length s + 1) ++ word at) _ c.names.invariant.told
          (segments_next names c.names.i s left at) grown;
      placed = omega (arith, length-pool_next names c.names.i s left);
    }

pub overflow_add-at : goal.overflow_add-at
overflow_add-at c =
    let names = map (λ n. n.now) c.args.names.now in
    let left = drop_found names c.names.i c.name_of.result.now c.name_of.ensures in
    omega (arith, length-pool_next names c.names.i c.name_of.result.now left)
