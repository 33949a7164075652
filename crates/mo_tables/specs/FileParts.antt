-- Private: parts of a file, and what is known about them.
use Rattle.std.specs.Prelude.{◌≡◌, ◌≢◌, ℕ, ◌+◌, ◌-◌, ◌<◌, ◌≤◌, ◌==◌, List, length, take, drop, slice_index, count_by}
use Rattle.std.specs.Str.{IsUtf8}
use Rattle.mo_tables.specs.declared.stretch.Stretch.{Stretch}
use Rattle.mo_tables.specs.MoTables.{before_nul}
use Rattle.mo_tables.specs.declared.gap.Gap.{Gap}
use Rattle.mo_tables.specs.declared.gap.Twice.{Twice}
use Rattle.mo_tables.specs.declared.strings.Separators.{Separators}

-- the bytes from `start` up to `end`
abbrev pub part : List ℕ → ℕ → ℕ → List ℕ
part bytes start end = take (end - start) (drop start bytes)

abbrev pub IsPart : List ℕ → ℕ → ℕ → Type 0
IsPart bytes start end = (start ≤ end) × (end ≤ length bytes)

-- the stretch is a part of the bytes, at its offset, and is UTF-8
pub record IsStretch (bytes : List ℕ) (s : Stretch) : Type 0 where
  pub within : s.start + length s.text.now ≤ length bytes
  pub same : s.text.now ≡ part bytes s.start (s.start + length s.text.now)
  pub utf8 : IsUtf8 s.text.now

-- the bytes from the gap's start to its end lack this byte
pub record IsGap (bytes : List ℕ) (byte : ℕ) (gap : Gap) : Type 0 where
  pub rises : gap.from ≤ gap.to
  pub within : gap.to ≤ length bytes
  pub lacks : (i : ℕ) → gap.from ≤ i → i < gap.to → slice_index bytes i ≢ byte

-- the gap ends at the first occurrence of the byte from `start` up to `end`, or else at `end` or later
pub record Ends (bytes : List ℕ) (byte start end : ℕ) (gap : Gap) : Type 0 where
  pub lacks : IsGap bytes byte gap
  pub around : (gap.from ≤ start) × (start ≤ gap.to)
  pub found : gap.to < end → slice_index bytes gap.to ≡ byte

-- both parts are gaps
pub record AreGaps (bytes : List ℕ) (byte : ℕ) (offsets : Twice) : Type 0 where
  pub first : IsGap bytes byte offsets.first
  pub second : IsGap bytes byte offsets.second

-- the two gaps end at the first two occurrences of the byte in this part
pub record Counts (bytes : List ℕ) (byte start end : ℕ) (offsets : Twice) : Type 0 where
  pub first : Ends bytes byte start end offsets.first
  pub second : offsets.first.to < end → Ends bytes byte (offsets.first.to + 1) end offsets.second

-- what is known of byte 4 and NUL is true of these bytes
pub record KnowsSeparators (bytes : List ℕ) (known : Separators) : Type 0 where
  pub none : IsGap bytes 4 known.none
  pub key : IsGap bytes 0 known.key
  pub offsets : AreGaps bytes 4 known.offsets

-- the key holds byte 4 at most once
abbrev pub HasFewSeparators : List ℕ → Type 0
HasFewSeparators original = count_by (λ b. b == 4) (before_nul original) ≤ 1
