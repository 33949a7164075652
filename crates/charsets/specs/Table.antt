-- The table of each charset: the code points of bytes 128 to 255, 0 if a byte has none.

-- Written by tools/make_charsets.
use Rattle.std.specs.Prelude.{ℕ, List}
use Rattle.charsets.specs.declared.kinds.Charset.{Charset}
use Rattle.charsets.specs.declared.kinds.Charset.TheVariants.{Ascii, Iso8859_1, Iso8859_2, Iso8859_3, Iso8859_4}
use Rattle.charsets.specs.declared.kinds.Charset.TheVariants.{Iso8859_5, Iso8859_6, Iso8859_7, Iso8859_8, Iso8859_9}
use Rattle.charsets.specs.declared.kinds.Charset.TheVariants.{Iso8859_13, Iso8859_14, Iso8859_15, Iso8859_16, Koi8R}
use Rattle.charsets.specs.declared.kinds.Charset.TheVariants.{Koi8U, Koi8T, Cp850, Cp866, Cp874, Cp1250, Cp1251, Cp1252}
use Rattle.charsets.specs.declared.kinds.Charset.TheVariants.{Cp1253, Cp1254, Cp1256, Cp1257, Tis620, GeorgianPs, EucJp}
use Rattle.charsets.specs.declared.kinds.Charset.TheVariants.{EucKr, Big5, Gb2312, Gbk}
use Rattle.charsets.specs.Tables.{ascii, iso8859_1, iso8859_2, iso8859_3, iso8859_4, iso8859_5, iso8859_6, iso8859_7}
use Rattle.charsets.specs.Tables.{iso8859_8, iso8859_9, iso8859_13, iso8859_14, iso8859_15, iso8859_16, koi8r, koi8u}
use Rattle.charsets.specs.Tables.{koi8t, cp850, cp866, cp874, cp1250, cp1251, cp1252, cp1253, cp1254, cp1256, cp1257}
use Rattle.charsets.specs.Tables.{tis620, georgianps, eucjp, euckr, big5, gb2312, gbk}

unfoldable pub table : Charset → List ℕ
table Ascii = ascii
table Iso8859_1 = iso8859_1
table Iso8859_2 = iso8859_2
table Iso8859_3 = iso8859_3
table Iso8859_4 = iso8859_4
table Iso8859_5 = iso8859_5
table Iso8859_6 = iso8859_6
table Iso8859_7 = iso8859_7
table Iso8859_8 = iso8859_8
table Iso8859_9 = iso8859_9
table Iso8859_13 = iso8859_13
table Iso8859_14 = iso8859_14
table Iso8859_15 = iso8859_15
table Iso8859_16 = iso8859_16
table Koi8R = koi8r
table Koi8U = koi8u
table Koi8T = koi8t
table Cp850 = cp850
table Cp866 = cp866
table Cp874 = cp874
table Cp1250 = cp1250
table Cp1251 = cp1251
table Cp1252 = cp1252
table Cp1253 = cp1253
table Cp1254 = cp1254
table Cp1256 = cp1256
table Cp1257 = cp1257
table Tis620 = tis620
table GeorgianPs = georgianps
table EucJp = eucjp
table EucKr = euckr
table Big5 = big5
table Gb2312 = gb2312
table Gbk = gbk
