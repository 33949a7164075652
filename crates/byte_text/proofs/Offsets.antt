-- The first index of a byte, found by vectors.
use Rattle.std.proofs.Common.{◌≡◌, ℕ, ◌+◌, ◌<◌, ◌≤◌, ◌==◌, Bool, true, false, not, List, length, get_or, Some, None}
use Rattle.std.proofs.Common.{arith, inl, inr}
use Rattle.std.specs.List.{prefix_len}
use Rattle.std.proofs.lemmas.Bool.{cases_lt}
use Rattle.std.proofs.lemmas.Simd.{run_in_chunk_fails, run_in_chunk_stops}
use Rattle.bstr.specs.Find.{IsFirstByte, is_byte}
use lib.Lanes.{chunk}

-- n bytes of d at an index, r of them before the first such byte; no byte of d before `from` is one
pub record Looked (byte : ℕ) (d : List ℕ) (at n r from : ℕ) : Type 0 where
  pub room : at + n ≤ length d
  pub counted : r ≡ prefix_len (λ x. not (x == byte)) (chunk at n d)
  pub behind : at ≤ from
  pub early : (k : ℕ) → k < from → is_byte byte (get_or d k 0) ≡ false

pub none_below : (byte : ℕ) (d : List ℕ) (at n r from : ℕ) → Looked byte d at n r from → (k : ℕ) → k < at + r
    → is_byte byte (get_or d k 0) ≡ false
none_below byte d at n r from h k lt = elim (cases_lt k from) [
  | inl e ↦ h.early k e
  | inr late ↦ run_in_chunk_fails (is_byte byte) d at n r 0 h.room h.counted k (omega (arith, h.behind)) lt
]

differ : (b : Bool) → b ≡ false → b ≡ true → ⊥
differ b e f = absurd (cc (e, f))

pub found_there : (byte : ℕ) (d : List ℕ) (at n r from : ℕ) → Looked byte d at n r from → r < n
    → IsFirstByte (is_byte byte) d (Some (at + r))
found_there byte d at n r from h few = (
  record {
    low = omega arith;
    high = omega (arith, h.room);
    before = λ k low lt passes. differ _ (none_below byte d at n r from h k lt) passes;
  },
  run_in_chunk_stops (is_byte byte) d at n r 0 h.room h.counted few,
)

pub found_nowhere : (byte : ℕ) (d : List ℕ) (at n r from : ℕ) → Looked byte d at n r from → n ≤ r
    → at + n ≡ length d → IsFirstByte (is_byte byte) d None
found_nowhere byte d at n r from h all end = λ k low lt passes.
    differ _ (none_below byte d at n r from h k (omega (arith, all, end, lt))) passes
