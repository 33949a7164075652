use Rattle.std.proofs.Common.{◌≡◌, ◌++◌, ◌∷◌, [], List, ℕ, ap, ◌∙◌, append_assoc}
use Rattle.mo_image.specs.MoFile.{with_nul}
use Rattle.mo_segments.specs.Writing.{side_of}
use Rattle.mo_segments.proofs.Parts.{piece_written, pool_split}
use Rattle.mo_segments.proofs.flat.push_pool.Goals as goal

pub messages-preserved : goal.messages-preserved
messages-preserved c =
    let f = side_of c.args.which in
    let grown : c.push.new.self.items ≡ c.messages.out.items ++ with_nul (f c.index-messages-i.result) =
    c.in_ok-push.ensures.items
    ∙ ap (λ (x : List ℕ). x ++ 0 ∷ []) (c.in_ok-extend_from_slice.ensures.items
    ∙ ap (λ (x : List ℕ). c.messages.out.items ++ x) c.of_side.ensures)
    ∙ append_assoc c.messages.out.items (f c.index-messages-i.result) (0 ∷ []) in
    piece_written c.messages.out.items _ _ c.push.new.self.items (with_nul (f c.index-messages-i.result)) _
    c.messages.invariant
    (pool_split f c.args.messages.now c.messages.i c.index-messages-i.result c.messages-test.true
    c.index-messages-i.is) grown
