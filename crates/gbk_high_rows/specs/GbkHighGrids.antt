-- The characters of two bytes of each charset.

-- Written by tools/make_charsets.
use Rattle.std.specs.Prelude.{ℕ, nat_lt, if◌then◌else◌}
use Rattle.charset_grid.specs.Grid.{Cells}
use Rattle.gbk_high_rows.specs.GbkHighRows.{gbk_high_d1, gbk_high_f7}

-- two bytes in GBK from D100 on: the cells among whose rows is that of this first byte, if it has one
abbrev pub gbk_high : ℕ → Cells
gbk_high first =
    if nat_lt first 0xF7 then record { first_row = 0xD1; first_column = 0x40; rows = gbk_high_d1 }
    else (record { first_row = 0xF7; first_column = 0x40; rows = gbk_high_f7 })
