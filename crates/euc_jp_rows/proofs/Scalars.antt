-- Each code point of the rows is one of Unicode's characters.

-- Written by tools/make_charsets.
use Rattle.std.proofs.Common.{◌≡◌, ℕ, true, nat_lt, refl}
use Rattle.euc_jp_rows.specs.EucJpRows.{euc_jp_8e, euc_jp_e9}
use Rattle.euc_jp_rows.specs.EucJp8fRows.{euc_jp_8f_a2}
use Rattle.euc_jp_rows.specs.EucJpGrids.{euc_jp, euc_jp_8f}
use Rattle.charset_grid.proofs.Cells.{AreScalars, have_scalars, choice}

have_euc_jp_8e : have_scalars euc_jp_8e ≡ true
unfolding euc_jp_8e
have_euc_jp_8e = refl

have_euc_jp_e9 : have_scalars euc_jp_e9 ≡ true
unfolding euc_jp_e9
have_euc_jp_e9 = refl

pub of_euc_jp : (first : ℕ) → AreScalars (euc_jp first)
of_euc_jp first =
    choice (nat_lt first 0xE9) _ _ have_euc_jp_8e
    (have_euc_jp_e9)

have_euc_jp_8f_a2 : have_scalars euc_jp_8f_a2 ≡ true
unfolding euc_jp_8f_a2
have_euc_jp_8f_a2 = refl

pub of_euc_jp_8f : AreScalars euc_jp_8f
of_euc_jp_8f =
    have_euc_jp_8f_a2
