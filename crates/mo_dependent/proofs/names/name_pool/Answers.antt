use Rattle.std.proofs.Common.{◌≡◌, ◌++◌, ◌∷◌, [], List, ℕ, map, ap, ◌∙◌, append_assoc}
use Rattle.mo_image.specs.MoFile.{with_nul}
use Rattle.mo_image.proofs.Writing.{piece_written}
use Rattle.mo_dependent.proofs.Steps.{drop_found, pool_next}
use Rattle.mo_dependent.proofs.names.name_pool.Goals as goal

pub names-preserved : goal.names-preserved
names-preserved c =
    let names = map (λ n. n.now) c.args.names.now in
    let s = c.name_of.result.now in
    let left = drop_found names c.names.i c.name_of.result.now c.name_of.ensures in
    let grown : c.push.new.self.items ≡ c.names.out.items ++ with_nul s =
    c.in_ok-push.ensures.items ∙ ap (λ (x : List ℕ). x ++ 0 ∷ []) c.in_ok-extend_from_slice.ensures.items
    ∙ append_assoc c.names.out.items s (0 ∷ []) in
    piece_written c.names.out.items _ _ c.push.new.self.items (with_nul s) _ c.names.invariant
    (pool_next names c.names.i s left) grown
