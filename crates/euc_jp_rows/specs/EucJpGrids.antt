-- The characters of two bytes of each charset.

-- Written by tools/make_charsets.
use Rattle.std.specs.Prelude.{ℕ, nat_lt, if◌then◌else◌}
use Rattle.charset_grid.specs.Grid.{Cells}
use Rattle.euc_jp_rows.specs.EucJpRows.{euc_jp_8e, euc_jp_e9}
use Rattle.euc_jp_rows.specs.EucJp8fRows.{euc_jp_8f_a2}

-- two bytes in EUC-JP: the cells among whose rows is that of this first byte, if it has one
abbrev pub euc_jp : ℕ → Cells
euc_jp first =
    if nat_lt first 0xE9 then record { first_row = 0x8E; first_column = 0xA1; rows = euc_jp_8e }
    else (record { first_row = 0xE9; first_column = 0xA1; rows = euc_jp_e9 })

-- two bytes in EUC-JP behind the byte 8F, of JIS X 0212
abbrev pub euc_jp_8f : Cells
euc_jp_8f =
    record { first_row = 0xA2; first_column = 0xA1; rows = euc_jp_8f_a2 }
