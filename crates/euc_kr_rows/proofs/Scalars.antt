-- Each code point of the rows is one of Unicode's characters.

-- Written by tools/make_charsets.
use Rattle.std.proofs.Common.{◌≡◌, ℕ, true, nat_lt, refl}
use Rattle.euc_kr_rows.specs.EucKrRows.{euc_kr_a1, euc_kr_ea}
use Rattle.euc_kr_rows.specs.EucKrGrids.{euc_kr}
use Rattle.charset_grid.proofs.Cells.{AreScalars, have_scalars, choice}

have_euc_kr_a1 : have_scalars euc_kr_a1 ≡ true
unfolding euc_kr_a1
have_euc_kr_a1 = refl

have_euc_kr_ea : have_scalars euc_kr_ea ≡ true
unfolding euc_kr_ea
have_euc_kr_ea = refl

pub of_euc_kr : (first : ℕ) → AreScalars (euc_kr first)
of_euc_kr first =
    choice (nat_lt first 0xEA) _ _ have_euc_kr_a1
    (have_euc_kr_ea)
