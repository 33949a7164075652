use Rattle.po_text.proofs.Kit.{ℕ, cond, refl, arith, zip2_splat, length-chunk, chunk, is_simple}
use Rattle.std.proofs.Common.{leb}
use Rattle.std.proofs.lemmas.Simd.{zip2_splat_left}
use Rattle.po_text.proofs.LaneLemmas.{either, lanes_run}
use Rattle.po_text.proofs.plain.simple_lanes.Goals as goal

abbrev at_most : ℕ → ℕ → ℕ
at_most a b = cond (leb a b) 255 0

pub returns : goal.returns
returns c =
    let v = chunk c.args.at 16 c.args.text.now in
    let long = length-chunk c.args.at 16 c.args.text.now c.requires in
    lanes_run is_simple c.args.text.now c.args.at 16 _ _ _ c.requires (omega arith) c.type_inv.text
    (either _ _ v (zip2_splat _ v 16 _ long) (zip2_splat_left {X = ℕ} at_most _ 16 v long)) refl c.first_set.ensures
