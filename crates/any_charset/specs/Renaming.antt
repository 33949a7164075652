-- Private: a declared charset, and a text with `UTF-8` as its charset.
use Rattle.std.specs.Prelude.{◌≡◌, ℕ, ◌+◌, List, ◌++◌, codes, take}
use Rattle.po_text.specs.Spelling.{newlines}
use Rattle.po_checks.specs.Refusal.{out_of_memory}
use Rattle.charsets.specs.declared.kinds.Charset.{Charset}
use Rattle.charsets.specs.Decoding.{IsFirstWithNone}
use Rattle.any_charset.specs.declared.declared.Declaration.{Declaration}
use Rattle.any_charset.specs.declared.fault.TextFault.{TextFault}
use Rattle.any_charset.specs.declared.fault.TextFault.TheVariants.{Load, NoCharacter}

-- the text with `UTF-8` in place of the name
abbrev pub renamed_of : Declaration → List ℕ
renamed_of d = d.before.now ++ codes "UTF-8" ++ d.after.now

-- the text can't be decoded, since a byte has no character, or memory ran out
abbrev pub FailsToDecode : Charset → List ℕ → TextFault → Type 0
FailsToDecode charset text (Load fault) = fault ≡ out_of_memory
FailsToDecode charset text (NoCharacter line) =
    (at : ℕ) × IsFirstWithNone charset text at × (line ≡ newlines (take at text) + 1)
