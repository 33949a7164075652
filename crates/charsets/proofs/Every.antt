-- Every charset is in the list of all.

-- Written by tools/make_charsets.
use Rattle.std.proofs.Common.{refl, lit<}
use Rattle.std.specs.List.{Contains}
use Rattle.charsets.specs.declared.kinds.Charset.{Charset}
use Rattle.charsets.specs.declared.kinds.Charset.TheVariants.{Ascii, Iso8859_1, Iso8859_2, Iso8859_3, Iso8859_4}
use Rattle.charsets.specs.declared.kinds.Charset.TheVariants.{Iso8859_5, Iso8859_6, Iso8859_7, Iso8859_8, Iso8859_9}
use Rattle.charsets.specs.declared.kinds.Charset.TheVariants.{Iso8859_13, Iso8859_14, Iso8859_15, Iso8859_16, Koi8R}
use Rattle.charsets.specs.declared.kinds.Charset.TheVariants.{Koi8U, Koi8T, Cp850, Cp866, Cp874, Cp1250, Cp1251, Cp1252}
use Rattle.charsets.specs.declared.kinds.Charset.TheVariants.{Cp1253, Cp1254, Cp1256, Cp1257, Tis620, GeorgianPs, EucJp}
use Rattle.charsets.specs.declared.kinds.Charset.TheVariants.{EucKr, Big5, Gb2312, Gbk}
use Rattle.charsets.specs.Every.{all}

pub every : (charset : Charset) → Contains all charset
every Ascii = (0, lit< tt, refl)
every Iso8859_1 = (1, lit< tt, refl)
every Iso8859_2 = (2, lit< tt, refl)
every Iso8859_3 = (3, lit< tt, refl)
every Iso8859_4 = (4, lit< tt, refl)
every Iso8859_5 = (5, lit< tt, refl)
every Iso8859_6 = (6, lit< tt, refl)
every Iso8859_7 = (7, lit< tt, refl)
every Iso8859_8 = (8, lit< tt, refl)
every Iso8859_9 = (9, lit< tt, refl)
every Iso8859_13 = (10, lit< tt, refl)
every Iso8859_14 = (11, lit< tt, refl)
every Iso8859_15 = (12, lit< tt, refl)
every Iso8859_16 = (13, lit< tt, refl)
every Koi8R = (14, lit< tt, refl)
every Koi8U = (15, lit< tt, refl)
every Koi8T = (16, lit< tt, refl)
every Cp850 = (17, lit< tt, refl)
every Cp866 = (18, lit< tt, refl)
every Cp874 = (19, lit< tt, refl)
every Cp1250 = (20, lit< tt, refl)
every Cp1251 = (21, lit< tt, refl)
every Cp1252 = (22, lit< tt, refl)
every Cp1253 = (23, lit< tt, refl)
every Cp1254 = (24, lit< tt, refl)
every Cp1256 = (25, lit< tt, refl)
every Cp1257 = (26, lit< tt, refl)
every Tis620 = (27, lit< tt, refl)
every GeorgianPs = (28, lit< tt, refl)
every EucJp = (29, lit< tt, refl)
every EucKr = (30, lit< tt, refl)
every Big5 = (31, lit< tt, refl)
every Gb2312 = (32, lit< tt, refl)
every Gbk = (33, lit< tt, refl)
