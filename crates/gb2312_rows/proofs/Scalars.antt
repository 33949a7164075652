-- Each code point of the rows is one of Unicode's characters.

-- Written by tools/make_charsets.
use Rattle.std.proofs.Common.{◌≡◌, ℕ, true, nat_lt, refl}
use Rattle.gb2312_rows.specs.Gb2312Rows.{gb2312_a1, gb2312_ec}
use Rattle.gb2312_rows.specs.Gb2312Grids.{gb2312}
use Rattle.charset_grid.proofs.Cells.{AreScalars, have_scalars, choice}

have_gb2312_a1 : have_scalars gb2312_a1 ≡ true
unfolding gb2312_a1
have_gb2312_a1 = refl

have_gb2312_ec : have_scalars gb2312_ec ≡ true
unfolding gb2312_ec
have_gb2312_ec = refl

pub of_gb2312 : (first : ℕ) → AreScalars (gb2312 first)
of_gb2312 first =
    choice (nat_lt first 0xEC) _ _ have_gb2312_a1
    (have_gb2312_ec)
