use Rattle.po_text.proofs.Kit.{ℕ, cond, refl, arith, zip2_splat, length-chunk, chunk, is_word_byte}
use Rattle.std.proofs.Common.{ltb}
use Rattle.std.proofs.lemmas.Simd.{zip2_splat_left}
use Rattle.po_text.proofs.LaneLemmas.{both, either, lanes_run}
use Rattle.po_text.proofs.words.word_lanes.Goals as goal

abbrev below : ℕ → ℕ → ℕ
below a b = cond (ltb a b) 255 0

pub returns : goal.returns
returns c =
    let v = chunk 0 16 c.args.text.now in
    let long = length-chunk 0 16 c.args.text.now c.requires in
    let no_capital = either _ _ v (zip2_splat {Y = ℕ} _ v 16 65 long) (zip2_splat_left {X = ℕ} below 90 16 v long) in
    let no_small = either _ _ v (zip2_splat {Y = ℕ} _ v 16 97 long) (zip2_splat_left {X = ℕ} below 122 16 v long) in
    let no_digit = either _ _ v (zip2_splat {Y = ℕ} _ v 16 48 long) (zip2_splat_left {X = ℕ} below 57 16 v long) in
    lanes_run is_word_byte c.args.text.now 0 16 _ _ _ c.requires (omega arith) c.type_inv.text
    (both _ _ v (both _ _ v (both _ _ v no_capital no_small) no_digit) (zip2_splat {Y = ℕ} _ v 16 95 long))
    refl c.first_set.ensures
