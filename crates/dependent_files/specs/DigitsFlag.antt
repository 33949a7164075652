-- Translations whose directives have the flag `I`, for the digits of the locale (GNU gettext manual, "c-format"; glibc,
-- "Integer Conversions").
use Rattle.std.specs.Prelude.{◌≡◌, ℕ, false, List}
use Rattle.std.specs.List.{Any, list_all}
use Rattle.mo_image.specs.Entry.{Entry}
use Rattle.c_macros.specs.MacroSplits.{Splits, is_macro}
use Rattle.c_macros.specs.declared.Side.TheVariants.{Translation}
use Rattle.c_macros.specs.declared.Split.{Split}

-- the text is a format that may be a translation, and one of its parts isn't a macro but the flag
pub record HasFlag (text : List ℕ) : Type 0 where
  pub parts : List Split
  pub splits : Splits Translation text parts
  pub some : list_all is_macro parts ≡ false

-- some form of the entry has the flag
abbrev pub FormHasFlag : Entry → Type 0
FormHasFlag e = Any HasFlag e.forms

-- some translation of the map has the flag, whether its message is flagged `c-format` or not
abbrev pub SomeHasFlag : List Entry → Type 0
SomeHasFlag m = Any FormHasFlag m
