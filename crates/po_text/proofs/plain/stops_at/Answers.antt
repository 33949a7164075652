use Rattle.po_text.proofs.Kit.{ℕ, ◌<◌, cond, List, [], ◌∷◌, get_or, ap, ◌∙◌, refl, arith, zip2_splat, length-chunk}
use Rattle.po_text.proofs.Kit.{chunk}
use Rattle.std.proofs.Common.{eqb, replicate, w8}
use lib.Bits.{bit_and, and_le_r}
use lib.Lanes.{zip2}
use Rattle.std.proofs.lemmas.Simd.{SwzOk-from_below, Each1-zip2, Each2-splat, Each1-all, length-zip2, swz_l}
use Rattle.po_text.specs.Clean.{is_clean}
use Rattle.po_text.proofs.LaneLemmas.{lanes_run, lanes_stop, looked_up, zip2-self}
use Rattle.po_text.proofs.plain.stops_at.Goals as goal

low_bits : (a : ℕ) → bit_and a 15 < 16
low_bits a = omega (arith, and_le_r a 15)

pub swizzle-stops : goal.swizzle-stops
swizzle-stops c =
    let v = chunk c.args.at 16 c.args.text.now in
    let long = length-chunk c.args.at 16 c.args.text.now c.requires in
    SwzOk-from_below w8 16 1 16 0 (zip2 bit_and v (replicate 16 15)) refl
    (omega (arith, length-zip2 bit_and v (replicate 16 15) long, long))
    (Each1-zip2 bit_and (λ j. j < 16) v (replicate 16 15)
    (Each2-splat (λ a b. bit_and a b < 16) v 16 15 (Each1-all (λ a. bit_and a 15 < 16) low_bits v)))

pub returns : goal.returns
returns c =
    let v = chunk c.args.at 16 c.args.text.now in
    let long = length-chunk c.args.at 16 c.args.text.now c.requires in
    let table : List ℕ = 0 ∷ 0 ∷ 34 ∷ 0 ∷ 4 ∷ 0 ∷ 0 ∷ 0 ∷ 0 ∷ 0 ∷ 10 ∷ 0 ∷ 92 ∷ 0 ∷ 0 ∷ 0 ∷ [] in
    let equal : ℕ → ℕ → ℕ = λ a b. cond (eqb a b) 255 0 in
    let found = ap (λ js. swz_l w8 16 table 0 js) (zip2_splat bit_and v 16 15 long)
    ∙ looked_up table (λ x. bit_and x 15) 0 v (omega (arith, long)) low_bits in
    let lanes = ap (λ stops. zip2 equal v stops) found ∙ zip2-self equal (λ x. get_or table (bit_and x 15) 0) v in
    record {
      first = lanes_run is_clean c.args.text.now c.args.at 16 _ _ _ c.requires (omega arith) c.type_inv.text lanes refl
          refl;
      some = lanes_stop is_clean c.args.text.now c.args.at 16 _ _ c.requires (omega arith) c.type_inv.text lanes refl;
    }
