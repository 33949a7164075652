-- The characters of two bytes of each charset.

-- Written by tools/make_charsets.
use Rattle.std.specs.Prelude.{ℕ, nat_lt, if◌then◌else◌}
use Rattle.charset_grid.specs.Grid.{Cells}
use Rattle.euc_kr_rows.specs.EucKrRows.{euc_kr_a1, euc_kr_ea}

-- two bytes in EUC-KR: the cells among whose rows is that of this first byte, if it has one
abbrev pub euc_kr : ℕ → Cells
euc_kr first =
    if nat_lt first 0xEA then record { first_row = 0xA1; first_column = 0xA1; rows = euc_kr_a1 }
    else (record { first_row = 0xEA; first_column = 0xA1; rows = euc_kr_ea })
