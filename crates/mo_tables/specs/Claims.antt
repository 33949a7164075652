-- Private: the order of keys, by where they begin.
use Rattle.std.specs.Prelude.{◌≡◌, ◌≢◌, ℕ, ◌+◌, ◌<◌, ◌≤◌, List, length, drop, slice_index, slice_index_or}
use Rattle.std.specs.Ordering.{nat_cmp}
use Rattle.std.specs.declared.cmp.Ordering.TheVariants.{Less}
use Rattle.std.specs.Cmp.Lexicographic.{slice_cmp}
use Rattle.mo_tables.specs.MoTables.{before_nul}
use Rattle.mo_tables.specs.Rows.{first_elements}
use Rattle.mo_tables.specs.declared.rows.Row.{Row}
use Rattle.mo_tables.specs.declared.rows.Span.{Span}
use Rattle.mo_tables.specs.declared.claims.Claim.{Claim}
use Rattle.mo_tables.specs.declared.claims.Alike.{Alike}

-- the key that begins at this offset and ends before the first NUL
abbrev pub key_from : List ℕ → ℕ → List ℕ
key_from bytes offset = before_nul (drop offset bytes)

-- the claim holds: the key of `lesser` is below that of `greater`, byte by byte
abbrev pub ClaimHolds : List ℕ → Claim → Type 0
ClaimHolds bytes claim = slice_cmp nat_cmp (key_from bytes claim.lesser.start) (key_from bytes claim.greater.start)
    ≡ Less

-- both keys begin in the file
abbrev pub ClaimLies : List ℕ → Claim → Type 0
ClaimLies bytes claim = (claim.lesser.start ≤ length bytes) × (claim.greater.start ≤ length bytes)

-- an empty row, for an index past the end
abbrev pub empty_row : Row
empty_row = record { original = record { start = 0; len = 0 }; translation = record { start = 0; len = 0 } }

-- the span of the i-th original
abbrev pub original_of : List Row → ℕ → Span
original_of rows i = (slice_index_or rows i empty_row).original

-- the claim that the i-th key is below the next one
abbrev pub claim_at : List Row → ℕ → Claim
claim_at rows i = record { lesser = original_of rows i; greater = original_of rows (i + 1) }

-- the claims about the first i keys and their successors
abbrev pub claims_to : List Row → ℕ → List Claim
claims_to rows i = first_elements (claim_at rows) i

-- the first n bytes of both are equal, and none is NUL
abbrev pub AreAlike : List ℕ → List ℕ → ℕ → Type 0
AreAlike a b n = (i : ℕ) → i < n → (slice_index a i ≡ slice_index b i) × (slice_index a i ≢ 0)

-- the part is equal to the bytes `distance` further on, and holds no NUL
pub record IsAlike (bytes : List ℕ) (a : Alike) : Type 0 where
  pub rises : a.from ≤ a.to
  pub within : a.to + a.distance ≤ length bytes
  pub alike : (i : ℕ) → a.from ≤ i → i < a.to → (slice_index bytes i ≡ slice_index bytes (i + a.distance))
      × (slice_index bytes i ≢ 0)

-- at the end of the part the two copies differ, or both hold NUL
abbrev pub EndsThere : List ℕ → Alike → Type 0
EndsThere bytes a = slice_index bytes a.to ≡ slice_index bytes (a.to + a.distance) → slice_index bytes a.to ≡ 0
