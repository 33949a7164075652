-- Sizes and conversions, and what they take (C standard, 7.21.6.1, 7 and 8; POSIX, fprintf; GNU gettext manual,
-- "Objective C Format Strings").
use Rattle.std.specs.Prelude.{ℕ, Bool, true, false, ◌||◌, ◌==◌, if◌then◌else◌, List, Option, None, Some, option_map}
use Rattle.std.specs.Prelude.{codes}
use Rattle.std.specs.List.{fold, list_any}
use Rattle.c_signature.specs.declared.ArgKind.{ArgKind}
use Rattle.c_signature.specs.declared.ArgKind.TheVariants.{Signed, Unsigned, Double, LongDouble, Char, WideChar}
use Rattle.c_signature.specs.declared.ArgKind.TheVariants.{Text, WideText, Pointer, Count}
use Rattle.c_signature.specs.declared.Size.{Size}
use Rattle.c_signature.specs.declared.Size.TheVariants.{Byte, Short, Plain, Long, LongLong, Max, SizeT, PtrDiff}
use Rattle.objc_format.specs.declared.kinds.Taken.{Taken}
use Rattle.objc_format.specs.declared.kinds.Taken.TheVariants as takes

-- ---- sizes

abbrev pub is_size : ℕ → Bool
is_size b = list_any (λ letter. b == letter) (codes "hlLqjzZt")

-- behind an `h` one more is `hh`
abbrev pub shorter_size : Size → Size
shorter_size Short = Byte
shorter_size Byte = Byte
shorter_size _ = Short

-- behind an `l` one more is `ll`
abbrev pub longer_size : Size → Size
longer_size Long = LongLong
longer_size LongLong = LongLong
longer_size _ = Long

-- the size after one more letter: GNU gettext takes any run of them, and the last one decides
abbrev pub with_letter : Size → ℕ → Size
with_letter size letter =
    if letter == 104 then shorter_size size
    else if letter == 108 then longer_size size
    else if letter == 106 then Max
    else if letter == 116 then PtrDiff
    else if letter == 122 || letter == 90 then SizeT
    else LongLong

abbrev pub size_of : List ℕ → Size
size_of letters = fold with_letter Plain letters

-- ---- conversions

abbrev pub is_long : Size → Bool
is_long Long = true
is_long LongLong = true
is_long _ = false

abbrev pub floating : Size → ArgKind
floating LongLong = LongDouble
floating _ = Double

-- None: C has no such conversion
abbrev pub kind_in_c : ℕ → Size → Option ArgKind
kind_in_c conversion size =
    if list_any (λ letter. conversion == letter) (codes "di") then Some (Signed size)
    else if list_any (λ letter. conversion == letter) (codes "ouxX") then Some (Unsigned size)
    else if list_any (λ letter. conversion == letter) (codes "eEfFgGaA") then Some (floating size)
    else if conversion == 99 then Some (if is_long size then WideChar else Char)
    else if conversion == 67 then Some WideChar
    else if conversion == 115 then Some (if is_long size then WideText else Text)
    else if conversion == 83 then Some WideText
    else if conversion == 112 then Some Pointer
    else if conversion == 110 then Some (Count size)
    else None

-- `@` takes an object; None: there is no such conversion
abbrev pub taken_by : ℕ → Size → Option Taken
taken_by conversion size =
    if conversion == 64 then Some takes.Object else option_map takes.C (kind_in_c conversion size)

-- `%` and glibc's `m` take nothing
abbrev pub takes_nothing : ℕ → Bool
takes_nothing conversion = conversion == 37 || conversion == 109
