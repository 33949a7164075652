-- Private: the strings that an entry borrows, the length of its key, and its translation with the NUL after it.
use Rattle.std.specs.Prelude.{◌≡◌, ℕ, ◌<◌, ◌==◌, List, length, slice_get, IfSome}
use Rattle.std.specs.List.{AllByRecursion, slice_split}
use Rattle.byte_text.specs.Cut.{offset_of}
use Rattle.mo_image.specs.Entry.{IsLawfulEntry, LacksByte}
use Rattle.mo_image.specs.MoFile.{with_nul}
use Rattle.mo_image.specs.Pairs.{entry_of}

-- an original with the length of its key, and a translation, without and with the NUL after it
pub record IsLent (o : List ℕ) (n : ℕ) (t c : List ℕ) : Type 0 where
  pub lawful : IsLawfulEntry (entry_of o t)
  pub key_len : n ≡ offset_of 0 o
  pub with_nul : c ≡ with_nul t

-- a form with its NUL, and the rest
pub record IsCutWithNul (parts : List ℕ × List ℕ) (front behind : List ℕ) : Type 0 where
  pub form : front ≡ with_nul parts.0
  pub others : behind ≡ parts.1

-- given a translation with its NUL, the text is the form at k with its NUL
abbrev pub IsFormWithNulOf : List ℕ → ℕ → List ℕ → Type 0
IsFormWithNulOf forms k text = (t : List ℕ) → forms ≡ with_nul t
    → AllByRecursion (LacksByte 0) (slice_split (λ b. b == 0) t)
    → k < length (slice_split (λ b. b == 0) t)
    → IfSome (slice_get (slice_split (λ b. b == 0) t) k) (λ form. text ≡ with_nul form)
