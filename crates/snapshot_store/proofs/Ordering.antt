-- Beginnings of a list of batches.
use Rattle.std.proofs.Common.{◌≡◌, ◌≢◌, ℕ, ◌<◌, ◌≤◌, List, [], ◌∷◌, length, refl, ap, ◌∙◌, arith}
use Rattle.std.proofs.Common.{Bool, true, false, MatchBool, length-append}
use Rattle.std.proofs.lemmas.List.{append-nil}
use lib.Dec.{leb}
use Rattle.std.proofs.lemmas.Bool.Decides.{nat_tests}
use mathlib.Core.List.{IsPrefix}
use Rattle.live_set.specs.Loads.{LoadValue}
use Rattle.live_loads.specs.Batches.{StartsWith}
use Rattle.live_loads.specs.Seen.{SeenValue}

-- a beginning that is as long is the whole list
pub whole : (log v : List (List LoadValue)) → StartsWith log v → length log ≡ length v → log ≡ v
whole log v ([], is) same = is ∙ append-nil v
whole log v (x ∷ xs, is) same =
    absurd (omega (arith, ap (length {A = List LoadValue}) is, length-append v (x ∷ xs), same))

-- in one book a beginning that is as long as another one is that one
pub as_long : (a b : SeenValue) → b.book ≡ a.book → StartsWith b.batches a.batches
    → length b.batches ≡ length a.batches → b ≡ a
as_long a b book begins same =
    let batches : b.batches ≡ a.batches = whole b.batches a.batches begins same in
    λ i. record { book = book i; batches = batches i }

-- beginnings of other lengths differ
pub other_length : (a b : SeenValue) → length b.batches ≢ length a.batches → b ≢ a
other_length a b differ is = differ (ap (λ (s : SeenValue). length s.batches) is)

-- of two beginnings of one list the shorter begins the other
pub ordered : (a b z : List (List LoadValue)) → IsPrefix a z → IsPrefix b z → length a ≤ length b → StartsWith b a
ordered [] b z p q le = (b, refl)
ordered (x ∷ xs) [] z p q le = absurd (omega (arith, le))
ordered (x ∷ xs) (y ∷ ys) [] p q le = absurd (cc (p.1))
ordered (x ∷ xs) (y ∷ ys) (z ∷ zs) p q le =
    let heads : x ≡ y = cc (p.1, q.1) in
    let rest = ordered xs ys zs (p.0, cc (p.1)) (q.0, cc (q.1)) (omega (arith, le)) in
    (rest.0, cc (heads, rest.1))

pub compared : (a b z : List (List LoadValue)) (m n : ℕ) → IsPrefix a z → IsPrefix b z → m ≡ length a → n ≡ length b
    → MatchBool (leb m n) (StartsWith b a) (StartsWith a b × (length b < length a))
compared a b z m n p q is is' = by_case (leb m n) refl where
  by_case : (t : Bool) → leb m n ≡ t → MatchBool t (StartsWith b a) (StartsWith a b × (length b < length a))
  by_case true e = let le : m ≤ n = grind (arith, nat_tests) in ordered a b z p q (omega (arith, le, is, is'))
  by_case false e = let lt : n < m = grind (arith, nat_tests) in let k : length b < length a = omega
      (arith, lt, is, is') in (ordered b a z q p (omega (arith, k)), k)
