-- Each code point of the rows is one of Unicode's characters.

-- Written by tools/make_charsets.
use Rattle.std.proofs.Common.{◌≡◌, ℕ, true, nat_lt, refl}
use Rattle.gbk_high_rows.specs.GbkHighRows.{gbk_high_d1, gbk_high_f7}
use Rattle.gbk_high_rows.specs.GbkHighGrids.{gbk_high}
use Rattle.charset_grid.proofs.Cells.{AreScalars, have_scalars, choice}

have_gbk_high_d1 : have_scalars gbk_high_d1 ≡ true
unfolding gbk_high_d1
have_gbk_high_d1 = refl

have_gbk_high_f7 : have_scalars gbk_high_f7 ≡ true
unfolding gbk_high_f7
have_gbk_high_f7 = refl

pub of_gbk_high : (first : ℕ) → AreScalars (gbk_high first)
of_gbk_high first =
    choice (nat_lt first 0xF7) _ _ have_gbk_high_d1
    (have_gbk_high_f7)
