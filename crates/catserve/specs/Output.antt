-- The lines that a run writes.
use Rattle.std.specs.Prelude.{ℕ, ◌==◌, if◌then◌else◌, List, [], ◌∷◌, ◌++◌, codes}
use Rattle.std.specs.List.{flat_map, join_with_byte}
use Rattle.std.specs.Fmt.{decimal}
use Rattle.catalogue.specs.Meaning.{rank}
use Rattle.catalogue.specs.declared.Stats.{Stats}
use Rattle.catalogue.specs.declared.LoadKind.{LoadKind}
use Rattle.mo_file.specs.MoReading.{rank as mo_rank}
use Rattle.mo_file.specs.declared.fault.MoFault.{MoFault}

-- fields with a tab between each two, and LF
abbrev pub line : List (List ℕ) → List ℕ
line parts = join_with_byte 9 parts ++ 10 ∷ []

-- LF, a tab and a backslash are written as a backslash and a letter
abbrev pub escape : ℕ → List ℕ
escape b = if b == 10 then 92 ∷ 110 ∷ [] else if b == 9 then 92 ∷ 116 ∷ [] else if b == 92 then 92 ∷ 92 ∷ [] else b ∷ []

-- a text with its escapes
abbrev pub escaped_text : List ℕ → List ℕ
escaped_text text = flat_map escape text

-- a load of a PO text that was accepted: how many entries are translated, fuzzy and untranslated
abbrev pub accepted_line : Stats → List ℕ
accepted_line stats = line
    (codes "accepted" ∷ decimal stats.translated ∷ decimal stats.fuzzy ∷ decimal stats.untranslated ∷ [])

-- a load of an MO file that was accepted: how many entries it has
abbrev pub accepted_mo_line : ℕ → List ℕ
accepted_mo_line entries = line (codes "accepted-mo" ∷ decimal entries ∷ [])

-- a load whose PO text is refused: the number of the refusal, and its line
abbrev pub refused_line : LoadKind → ℕ → List ℕ
refused_line kind at = line (codes "refused" ∷ decimal (rank kind) ∷ decimal at ∷ [])

-- a load whose MO file is refused: the number of the refusal
abbrev pub refused_mo_line : MoFault → List ℕ
refused_mo_line fault = line (codes "refused-mo" ∷ decimal (mo_rank fault) ∷ [])

-- a load for what is no name
abbrev pub unnamed_line : List ℕ
unnamed_line = line (codes "refused" ∷ codes "name" ∷ [])

-- what a round publishes
abbrev pub version_line : ℕ → List ℕ
version_line version = line (codes "version" ∷ decimal version ∷ [])

-- what a worker answers, at a version
abbrev pub answer_line : ℕ → ℕ → List ℕ → List ℕ
answer_line worker version text = line (decimal worker ∷ decimal version ∷ escaped_text text ∷ [])
