-- The size of a map's one MO file, entry by entry.
use Rattle.std.proofs.Common.{◌≡◌, ◌+◌, ◌*◌, List, [], ◌∷◌, length, map, refl, ap, ◌∙◌, arith, length-append}
use Rattle.std.specs.List.{sum_by}
use Rattle.std.proofs.lemmas.List.Concat.{flat_map-cons}
use Rattle.std.proofs.lemmas.List.Sums.{sum_by-cons}
use Rattle.mo_image.specs.Entry.{Entry, original, translation}
use Rattle.mo_image.specs.MoFile.{with_nul, pool, spelling, entry_size as size}
use Rattle.mo_image.proofs.MoLengths.{length-spelling}

sums : (m : List Entry) → 16 * length m + length (pool (map original m)) + length (pool (map translation m))
    ≡ sum_by size m
sums [] = refl
sums (e ∷ m) =
    let o = ap length (flat_map-cons with_nul (original e) (map original m))
    ∙ length-append (with_nul (original e)) (pool (map original m)) in
    let t = ap length (flat_map-cons with_nul (translation e) (map translation m))
    ∙ length-append (with_nul (translation e)) (pool (map translation m)) in
    omega (arith, sums m, sum_by-cons size e m, o, t)

pub file_size : (m : List Entry) → length (spelling m) ≡ 28 + sum_by size m
file_size m = omega (arith, length-spelling m, sums m)
