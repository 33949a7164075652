-- The characters of two bytes of each charset.

-- Written by tools/make_charsets.
use Rattle.std.specs.Prelude.{ℕ, nat_lt, if◌then◌else◌}
use Rattle.charset_grid.specs.Grid.{Cells}
use Rattle.gb2312_rows.specs.Gb2312Rows.{gb2312_a1, gb2312_ec}

-- two bytes in GB2312: the cells among whose rows is that of this first byte, if it has one
abbrev pub gb2312 : ℕ → Cells
gb2312 first =
    if nat_lt first 0xEC then record { first_row = 0xA1; first_column = 0xA1; rows = gb2312_a1 }
    else (record { first_row = 0xEC; first_column = 0xA1; rows = gb2312_ec })
