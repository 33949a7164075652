-- Private: the blocks of a file, by which long texts are compared.
use Rattle.std.specs.Prelude.{◌≡◌, ◌≢◌, ℕ, ◌+◌, ◌<◌, List, length, slice_index}
use Rattle.mo_tables.specs.FileParts.{part, IsPart}
use Rattle.mo_tables.specs.declared.blocks.Blocks.{Blocks}

-- the text is that of the k-th block: the bytes from the k-th start up to the next one
pub record IsText (bytes starts : List ℕ) (k : ℕ) (text : List ℕ) : Type 0 where
  pub lies : IsPart bytes (slice_index starts k) (slice_index starts (k + 1))
  pub same : text ≡ part bytes (slice_index starts k) (slice_index starts (k + 1))

-- the text holds no NUL
abbrev pub LacksNul : List ℕ → Type 0
LacksNul text = (i : ℕ) → i < length text → slice_index text i ≢ 0

-- both blocks have one text, without NUL
pub record AreSame (bytes starts : List ℕ) (k first : ℕ) : Type 0 where
  pub text : List ℕ
  pub here : IsText bytes starts k text
  pub there : IsText bytes starts first text
  pub whole : LacksNul text

-- each block's number is 0, or that of a block with the same text
abbrev pub AreFirsts : List ℕ → List ℕ → List ℕ → Type 0
AreFirsts bytes starts firsts = (k : ℕ) → slice_index firsts k ≢ 0 → AreSame bytes starts k (slice_index firsts k)

-- these are blocks of the file
pub record AreBlocks (bytes : List ℕ) (blocks : Blocks) : Type 0 where
  pub firsts : AreFirsts bytes blocks.starts.items blocks.firsts.items
