-- The characters of two bytes of each charset.

-- Written by tools/make_charsets.
use Rattle.std.specs.Prelude.{ℕ, nat_lt, if◌then◌else◌, []}
use Rattle.charsets.specs.declared.kinds.Charset.{Charset}
use Rattle.charsets.specs.declared.kinds.Charset.TheVariants.{EucJp, EucKr, Big5, Gb2312, Gbk}
use Rattle.charset_grid.specs.Grid.{Cells}
use Rattle.euc_jp_rows.specs.EucJpGrids.{euc_jp}
use Rattle.euc_kr_rows.specs.EucKrGrids.{euc_kr}
use Rattle.big5_rows.specs.Big5Grids.{big5}
use Rattle.gb2312_rows.specs.Gb2312Grids.{gb2312}
use Rattle.gbk_low_rows.specs.GbkLowGrids.{gbk_low}
use Rattle.gbk_high_rows.specs.GbkHighGrids.{gbk_high}

-- two bytes in GBK: the cells among whose rows is that of this first byte, if it has one
abbrev pub gbk : ℕ → Cells
gbk first =
    if nat_lt first 0xD1 then gbk_low first
    else (gbk_high first)

-- the cells among whose rows is that of this first byte, if it has one; there are none in charsets of single
-- bytes
abbrev pub pairs : Charset → ℕ → Cells
pairs EucJp first = euc_jp first
pairs EucKr first = euc_kr first
pairs Big5 first = big5 first
pairs Gb2312 first = gb2312 first
pairs Gbk first = gbk first
pairs _ first = record { first_row = 0; first_column = 0; rows = [] }
