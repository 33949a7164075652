-- Each code point of the rows is one of Unicode's characters.

-- Written by tools/make_charsets.
use Rattle.std.proofs.Common.{◌≡◌, ℕ, true, nat_lt, refl}
use Rattle.big5_rows.specs.Big5Rows.{big5_a1, big5_c8, big5_ee}
use Rattle.big5_rows.specs.Big5Grids.{big5}
use Rattle.charset_grid.proofs.Cells.{AreScalars, have_scalars, choice}

have_big5_a1 : have_scalars big5_a1 ≡ true
unfolding big5_a1
have_big5_a1 = refl

have_big5_c8 : have_scalars big5_c8 ≡ true
unfolding big5_c8
have_big5_c8 = refl

have_big5_ee : have_scalars big5_ee ≡ true
unfolding big5_ee
have_big5_ee = refl

pub of_big5 : (first : ℕ) → AreScalars (big5 first)
of_big5 first =
    choice (nat_lt first 0xC8) _ _ have_big5_a1
    (choice (nat_lt first 0xEE) _ _ have_big5_c8
    (have_big5_ee))
