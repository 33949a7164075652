-- Which formats the texts of an entry are, by the flags in its comments (GNU gettext manual, "PO Files").
use Rattle.std.specs.Prelude.{ℕ, ◌-◌, ◌^◌, Bool, true, false, not, ◌==◌, if◌then◌else◌, List, length, take, drop}
use Rattle.std.specs.Prelude.{Option, Some, None, codes}
use Rattle.std.specs.Int.{bit_not, w64}
use Rattle.std.specs.Int.RustNames.{bit_and, bit_or}
use Rattle.std.specs.Str.{bytes_eq}
use Rattle.format_flags.specs.declared.languages.Language.{Language}
use Rattle.format_flags.specs.declared.flags.Flags.{Flags}
use Rattle.format_flags.specs.Languages.{language_named, number}

-- ---- words

-- the text behind this front, if it begins with it
abbrev pub behind : List ℕ → List ℕ → Option (List ℕ)
behind front text =
    if bytes_eq (take (length front) text) front then Some (drop (length front) text) else None

-- what stands before `-format` in a flag, if the word is one
abbrev pub stem : List ℕ → Option (List ℕ)
stem word =
    if bytes_eq (drop (length word - length (codes "-format")) word) (codes "-format")
    then Some (take (length word - length (codes "-format")) word) else None

-- what the flag says of the language that it names, by what stands before `-format`: `no-X` and `impossible-X` that the
-- texts are no formats of X, `possible-X` and `X` that they are or may be
abbrev pub says_possible : List ℕ → Option (List ℕ) → Bool × List ℕ
says_possible text (Some name) = (true, name)
says_possible text None = (true, text)

abbrev pub says_impossible : List ℕ → Option (List ℕ) → Bool × List ℕ
says_impossible text (Some name) = (false, name)
says_impossible text None = says_possible text (behind (codes "possible-") text)

abbrev pub says_no : List ℕ → Option (List ℕ) → Bool × List ℕ
says_no text (Some name) = (false, name)
says_no text None = says_impossible text (behind (codes "impossible-") text)

abbrev pub reading : List ℕ → Bool × List ℕ
reading text = says_no text (behind (codes "no-") text)

-- ---- flags

abbrev pub no_flags : Flags
no_flags = record { bits = 0 }

-- whether the texts are formats of the language: its bit is set
abbrev pub has : Flags → Language → Bool
has flags language = not (bit_and flags.bits (2 ^ number language) == 0)

-- the flags with the bit of the language set, or cleared
abbrev pub with_language : Flags → Language → Bool → Flags
with_language flags language true = record { bits = bit_or flags.bits (2 ^ number language) }
with_language flags language false = record { bits = bit_and flags.bits (bit_not w64 (2 ^ number language)) }

abbrev pub with_named : Flags → Option Language → Bool → Flags
with_named flags None says = flags
with_named flags (Some language) says = with_language flags language says

abbrev pub with_stem : Flags → List ℕ → Flags
with_stem flags stem = with_named flags (language_named (reading stem).1) (reading stem).0

abbrev pub with_flag : Flags → Option (List ℕ) → Flags
with_flag flags None = flags
with_flag flags (Some stem) = with_stem flags stem

-- the flags after this word; only a word that names a language changes them
abbrev pub with_word : Flags → List ℕ → Flags
with_word flags word = with_flag flags (stem word)
