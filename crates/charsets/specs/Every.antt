-- Private: the list of all charsets.

-- Written by tools/make_charsets.
use Rattle.std.specs.Prelude.{List, [], ◌∷◌}
use Rattle.charsets.specs.declared.kinds.Charset.{Charset}
use Rattle.charsets.specs.declared.kinds.Charset.TheVariants.{Ascii, Iso8859_1, Iso8859_2, Iso8859_3, Iso8859_4}
use Rattle.charsets.specs.declared.kinds.Charset.TheVariants.{Iso8859_5, Iso8859_6, Iso8859_7, Iso8859_8, Iso8859_9}
use Rattle.charsets.specs.declared.kinds.Charset.TheVariants.{Iso8859_13, Iso8859_14, Iso8859_15, Iso8859_16, Koi8R}
use Rattle.charsets.specs.declared.kinds.Charset.TheVariants.{Koi8U, Koi8T, Cp850, Cp866, Cp874, Cp1250, Cp1251, Cp1252}
use Rattle.charsets.specs.declared.kinds.Charset.TheVariants.{Cp1253, Cp1254, Cp1256, Cp1257, Tis620, GeorgianPs, EucJp}
use Rattle.charsets.specs.declared.kinds.Charset.TheVariants.{EucKr, Big5, Gb2312, Gbk}

abbrev pub all : List Charset
all =
    Ascii ∷ Iso8859_1 ∷ Iso8859_2 ∷ Iso8859_3 ∷ Iso8859_4 ∷ Iso8859_5 ∷ Iso8859_6 ∷ Iso8859_7 ∷ Iso8859_8 ∷
    Iso8859_9 ∷ Iso8859_13 ∷ Iso8859_14 ∷ Iso8859_15 ∷ Iso8859_16 ∷ Koi8R ∷ Koi8U ∷ Koi8T ∷ Cp850 ∷ Cp866 ∷ Cp874 ∷
    Cp1250 ∷ Cp1251 ∷ Cp1252 ∷ Cp1253 ∷ Cp1254 ∷ Cp1256 ∷ Cp1257 ∷ Tis620 ∷ GeorgianPs ∷ EucJp ∷ EucKr ∷ Big5 ∷
    Gb2312 ∷ Gbk ∷ []
