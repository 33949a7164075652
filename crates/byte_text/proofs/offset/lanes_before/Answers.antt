use Rattle.std.proofs.Common.{ap, ◌∙◌, ◌==◌, ℕ}
use Rattle.std.specs.Int.{w8}
use Rattle.std.proofs.lemmas.Simd.{bitmask_splat, first_set_mask_l, length-chunk}
use lib.Lanes.{chunk}
use Rattle.byte_text.specs.Lanes.{first_set}
use Rattle.byte_text.proofs.offset.lanes_before.Goals as goal

pub returns : goal.returns
returns g c =
    let n = g.row.N in
    let v = chunk c.args.at n c.args.bytes.now in
    let long = length-chunk c.args.at n c.args.bytes.now c.requires.room in
    c.first_set.ensures
    ∙ ap (λ m. first_set m n) (bitmask_splat w8 (λ (x y : ℕ). x == y) v n c.args.byte long c.requires.few)
    ∙ first_set_mask_l (λ x. x == c.args.byte) v n long c.requires.few
