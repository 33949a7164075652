-- The characters of two bytes of each charset.

-- Written by tools/make_charsets.
use Rattle.std.specs.Prelude.{ℕ, nat_lt, if◌then◌else◌}
use Rattle.charset_grid.specs.Grid.{Cells}
use Rattle.big5_rows.specs.Big5Rows.{big5_a1, big5_c8, big5_ee}

-- two bytes in BIG5: the cells among whose rows is that of this first byte, if it has one
abbrev pub big5 : ℕ → Cells
big5 first =
    if nat_lt first 0xC8 then record { first_row = 0xA1; first_column = 0x40; rows = big5_a1 }
    else (if nat_lt first 0xEE then record { first_row = 0xC8; first_column = 0x40; rows = big5_c8 }
    else (record { first_row = 0xEE; first_column = 0x40; rows = big5_ee }))
