-- The characters of two bytes of each charset.

-- Written by tools/make_charsets.
use Rattle.std.specs.Prelude.{ℕ, nat_lt, if◌then◌else◌}
use Rattle.charset_grid.specs.Grid.{Cells}
use Rattle.gbk_low_rows.specs.GbkLowRows.{gbk_low_81, gbk_low_a8}

-- two bytes in GBK below D100: the cells among whose rows is that of this first byte, if it has one
abbrev pub gbk_low : ℕ → Cells
gbk_low first =
    if nat_lt first 0xA8 then record { first_row = 0x81; first_column = 0x40; rows = gbk_low_81 }
    else (record { first_row = 0xA8; first_column = 0x40; rows = gbk_low_a8 })
