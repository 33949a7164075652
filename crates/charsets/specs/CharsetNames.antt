-- The names of each charset: those of GNU gettext and of iconv (GNU gettext manual, "Header Entry").

-- Written by tools/make_charsets.
use Rattle.std.specs.Prelude.{ℕ, List, [], ◌∷◌, codes}
use Rattle.charsets.specs.declared.kinds.Charset.{Charset}
use Rattle.charsets.specs.declared.kinds.Charset.TheVariants.{Ascii, Iso8859_1, Iso8859_2, Iso8859_3, Iso8859_4}
use Rattle.charsets.specs.declared.kinds.Charset.TheVariants.{Iso8859_5, Iso8859_6, Iso8859_7, Iso8859_8, Iso8859_9}
use Rattle.charsets.specs.declared.kinds.Charset.TheVariants.{Iso8859_13, Iso8859_14, Iso8859_15, Iso8859_16, Koi8R}
use Rattle.charsets.specs.declared.kinds.Charset.TheVariants.{Koi8U, Koi8T, Cp850, Cp866, Cp874, Cp1250, Cp1251, Cp1252}
use Rattle.charsets.specs.declared.kinds.Charset.TheVariants.{Cp1253, Cp1254, Cp1256, Cp1257, Tis620, GeorgianPs, EucJp}
use Rattle.charsets.specs.declared.kinds.Charset.TheVariants.{EucKr, Big5, Gb2312, Gbk}

unfoldable pub names : Charset → List (List ℕ)
names Ascii = codes "ASCII" ∷ codes "ANSI_X3.4-1968" ∷ codes "ANSI_X3.4-1986" ∷ codes "CP367" ∷ codes "CSASCII" ∷
    codes "IBM367" ∷ codes "ISO-IR-6" ∷ codes "ISO646-US" ∷ codes "ISO_646.IRV:1991" ∷ codes "OSF00010020" ∷
    codes "US" ∷ codes "US-ASCII" ∷ []
names Iso8859_1 = codes "ISO-8859-1" ∷ codes "8859_1" ∷ codes "CP819" ∷ codes "CSISOLATIN1" ∷ codes "IBM819" ∷
    codes "ISO-IR-100" ∷ codes "ISO8859-1" ∷ codes "ISO88591" ∷ codes "ISO_8859-1" ∷ codes "ISO_8859-1:1987" ∷
    codes "L1" ∷ codes "LATIN1" ∷ codes "OSF00010001" ∷ []
names Iso8859_2 = codes "ISO-8859-2" ∷ codes "8859_2" ∷ codes "CP912" ∷ codes "CSISOLATIN2" ∷ codes "IBM912" ∷
    codes "ISO-IR-101" ∷ codes "ISO8859-2" ∷ codes "ISO88592" ∷ codes "ISO_8859-2" ∷ codes "ISO_8859-2:1987" ∷
    codes "L2" ∷ codes "LATIN2" ∷ codes "OSF00010002" ∷ []
names Iso8859_3 = codes "ISO-8859-3" ∷ codes "8859_3" ∷ codes "CSISOLATIN3" ∷ codes "ISO-IR-109" ∷
    codes "ISO8859-3" ∷ codes "ISO88593" ∷ codes "ISO_8859-3" ∷ codes "ISO_8859-3:1988" ∷ codes "L3" ∷
    codes "LATIN3" ∷ codes "OSF00010003" ∷ []
names Iso8859_4 = codes "ISO-8859-4" ∷ codes "8859_4" ∷ codes "CSISOLATIN4" ∷ codes "ISO-IR-110" ∷
    codes "ISO8859-4" ∷ codes "ISO88594" ∷ codes "ISO_8859-4" ∷ codes "ISO_8859-4:1988" ∷ codes "L4" ∷
    codes "LATIN4" ∷ codes "OSF00010004" ∷ []
names Iso8859_5 = codes "ISO-8859-5" ∷ codes "8859_5" ∷ codes "CP915" ∷ codes "CSISOLATINCYRILLIC" ∷
    codes "CYRILLIC" ∷ codes "IBM915" ∷ codes "ISO-IR-144" ∷ codes "ISO8859-5" ∷ codes "ISO88595" ∷
    codes "ISO_8859-5" ∷ codes "ISO_8859-5:1988" ∷ codes "OSF00010005" ∷ []
names Iso8859_6 = codes "ISO-8859-6" ∷ codes "8859_6" ∷ codes "ARABIC" ∷ codes "ASMO-708" ∷ codes "CP1089" ∷
    codes "CSISOLATINARABIC" ∷ codes "ECMA-114" ∷ codes "IBM1089" ∷ codes "ISO-IR-127" ∷ codes "ISO8859-6" ∷
    codes "ISO88596" ∷ codes "ISO_8859-6" ∷ codes "ISO_8859-6:1987" ∷ codes "OSF00010006" ∷ []
names Iso8859_7 = codes "ISO-8859-7" ∷ codes "8859_7" ∷ codes "CP813" ∷ codes "CSISOLATINGREEK" ∷ codes "ECMA-118" ∷
    codes "ELOT_928" ∷ codes "GREEK" ∷ codes "GREEK8" ∷ codes "IBM813" ∷ codes "ISO-IR-126" ∷ codes "ISO8859-7" ∷
    codes "ISO88597" ∷ codes "ISO_8859-7" ∷ codes "ISO_8859-7:1987" ∷ codes "ISO_8859-7:2003" ∷ codes "OSF00010007" ∷
    []
names Iso8859_8 = codes "ISO-8859-8" ∷ codes "8859_8" ∷ codes "CP916" ∷ codes "CSISOLATINHEBREW" ∷ codes "HEBREW" ∷
    codes "IBM916" ∷ codes "ISO-IR-138" ∷ codes "ISO8859-8" ∷ codes "ISO88598" ∷ codes "ISO_8859-8" ∷
    codes "ISO_8859-8:1988" ∷ codes "OSF00010008" ∷ []
names Iso8859_9 = codes "ISO-8859-9" ∷ codes "8859_9" ∷ codes "CP920" ∷ codes "CSISOLATIN5" ∷ codes "ECMA-128" ∷
    codes "IBM920" ∷ codes "ISO-IR-148" ∷ codes "ISO8859-9" ∷ codes "ISO88599" ∷ codes "ISO_8859-9" ∷
    codes "ISO_8859-9:1989" ∷ codes "L5" ∷ codes "LATIN5" ∷ codes "OSF00010009" ∷ codes "TS-5881" ∷ []
names Iso8859_13 = codes "ISO-8859-13" ∷ codes "BALTIC" ∷ codes "ISO-IR-179" ∷ codes "ISO8859-13" ∷
    codes "ISO885913" ∷ codes "L7" ∷ codes "LATIN7" ∷ []
names Iso8859_14 = codes "ISO-8859-14" ∷ codes "ISO-CELTIC" ∷ codes "ISO-IR-199" ∷ codes "ISO8859-14" ∷
    codes "ISO885914" ∷ codes "ISO_8859-14" ∷ codes "ISO_8859-14:1998" ∷ codes "L8" ∷ codes "LATIN8" ∷ []
names Iso8859_15 = codes "ISO-8859-15" ∷ codes "ISO-IR-203" ∷ codes "ISO8859-15" ∷ codes "ISO885915" ∷
    codes "ISO_8859-15" ∷ codes "ISO_8859-15:1998" ∷ codes "LATIN-9" ∷ codes "LATIN9" ∷ []
names Iso8859_16 = codes "ISO-8859-16" ∷ codes "ISO-IR-226" ∷ codes "ISO8859-16" ∷ codes "ISO885916" ∷
    codes "ISO_8859-16" ∷ codes "ISO_8859-16:2001" ∷ codes "L10" ∷ codes "LATIN10" ∷ []
names Koi8R = codes "KOI8-R" ∷ codes "CSKOI8R" ∷ codes "KOI8R" ∷ []
names Koi8U = codes "KOI8-U" ∷ codes "KOI8U" ∷ []
names Koi8T = codes "KOI8-T" ∷ []
names Cp850 = codes "CP850" ∷ codes "850" ∷ codes "CSPC850MULTILINGUAL" ∷ codes "IBM850" ∷ codes "OSF10020352" ∷ []
names Cp866 = codes "CP866" ∷ codes "866" ∷ codes "CSIBM866" ∷ codes "IBM866" ∷ []
names Cp874 = codes "CP874" ∷ codes "874" ∷ codes "IBM874" ∷ codes "WINDOWS-874" ∷ []
names Cp1250 = codes "CP1250" ∷ codes "MS-EE" ∷ codes "WINDOWS-1250" ∷ []
names Cp1251 = codes "CP1251" ∷ codes "MS-CYRL" ∷ codes "WINDOWS-1251" ∷ []
names Cp1252 = codes "CP1252" ∷ codes "MS-ANSI" ∷ codes "WINDOWS-1252" ∷ []
names Cp1253 = codes "CP1253" ∷ codes "MS-GREEK" ∷ codes "WINDOWS-1253" ∷ []
names Cp1254 = codes "CP1254" ∷ codes "MS-TURK" ∷ codes "WINDOWS-1254" ∷ []
names Cp1256 = codes "CP1256" ∷ codes "MS-ARAB" ∷ codes "WINDOWS-1256" ∷ []
names Cp1257 = codes "CP1257" ∷ codes "WINBALTRIM" ∷ codes "WINDOWS-1257" ∷ []
names Tis620 = codes "TIS-620" ∷ codes "ISO-IR-166" ∷ codes "TIS620" ∷ codes "TIS620-0" ∷ codes "TIS620.2529-1" ∷
    codes "TIS620.2533-0" ∷ []
names GeorgianPs = codes "GEORGIAN-PS" ∷ []
names EucJp = codes "EUC-JP" ∷ codes "CSEUCPKDFMTJAPANESE" ∷ codes "EUCJP" ∷ codes "OSF00030010" ∷ codes "UJIS" ∷ []
names EucKr = codes "EUC-KR" ∷ codes "CSEUCKR" ∷ codes "EUCKR" ∷ codes "OSF0004000A" ∷ []
names Big5 = codes "BIG5" ∷ codes "BIG-5" ∷ codes "BIG-FIVE" ∷ codes "BIGFIVE" ∷ codes "CN-BIG5" ∷ codes "CP950" ∷ []
names Gb2312 = codes "GB2312" ∷ codes "CN-GB" ∷ codes "CSGB2312" ∷ codes "EUC-CN" ∷ codes "EUCCN" ∷ []
names Gbk = codes "GBK" ∷ codes "CP936" ∷ codes "GB13000" ∷ codes "MS936" ∷ codes "WINDOWS-936" ∷ []
