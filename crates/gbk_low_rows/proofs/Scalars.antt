-- Each code point of the rows is one of Unicode's characters.

-- Written by tools/make_charsets.
use Rattle.std.proofs.Common.{◌≡◌, ℕ, true, nat_lt, refl}
use Rattle.gbk_low_rows.specs.GbkLowRows.{gbk_low_81, gbk_low_a8}
use Rattle.gbk_low_rows.specs.GbkLowGrids.{gbk_low}
use Rattle.charset_grid.proofs.Cells.{AreScalars, have_scalars, choice}

have_gbk_low_81 : have_scalars gbk_low_81 ≡ true
unfolding gbk_low_81
have_gbk_low_81 = refl

have_gbk_low_a8 : have_scalars gbk_low_a8 ≡ true
unfolding gbk_low_a8
have_gbk_low_a8 = refl

pub of_gbk_low : (first : ℕ) → AreScalars (gbk_low first)
of_gbk_low first =
    choice (nat_lt first 0xA8) _ _ have_gbk_low_81
    (have_gbk_low_a8)
