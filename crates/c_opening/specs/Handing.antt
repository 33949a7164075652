-- Bytes that C hands over piece by piece: what is held has no catalogue then, and its file is the bytes so far.
use Rattle.std.specs.Prelude.{◌≡◌, ℕ, Bool, List, ◌++◌, MatchOption}
use Rattle.po_checks.specs.declared.options.Options.{Options}
use Rattle.c_answers.specs.declared.opened.Opened.{Opened}
use Rattle.c_answers.specs.Numbers.{memory_fault}
use Rattle.c_opening.specs.Opening.{IsOpenedMo, IsOpenedOwned, IsRefused}

-- these bytes were handed over, or memory ran out
abbrev pub IsHanded : List ℕ → Opened → Type 0
IsHanded bytes held = MatchOption held.file (IsRefused held memory_fault 0) (λ vec. vec.items ≡ bytes)

-- a piece was added at the end; once memory has run out, that is all that is known
abbrev pub IsExtended : Opened → List ℕ → Opened → Type 0
IsExtended held piece extended =
    MatchOption held.file (IsRefused extended memory_fault 0) (λ vec. IsHanded (vec.items ++ piece) extended)

-- the bytes are opened as an MO file, or memory had run out
abbrev pub IsOpenedHandedMo : Opened → Bool → Opened → Type 0
IsOpenedHandedMo held is_strict c =
    MatchOption held.file (IsRefused c memory_fault 0) (λ vec. IsOpenedMo vec.items is_strict c)

-- the bytes are opened as a PO text, or memory had run out
abbrev pub IsOpenedHandedPo : Opened → Options → Bool → Opened → Type 0
IsOpenedHandedPo held options is_strict c =
    MatchOption held.file (IsRefused c memory_fault 0) (λ vec. IsOpenedOwned vec.items options is_strict c)
