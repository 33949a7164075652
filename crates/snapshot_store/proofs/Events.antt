-- Lists of events: their batches, and what was shown.
use Rattle.std.proofs.Common.{◌≡◌, ℕ, zero, suc, ◌<◌, ◌≤◌, List, [], ◌∷◌, ◌++◌, length, sym, refl, ap, ◌∙◌, subst}
use Rattle.std.proofs.Common.{arith, max, length-append, append_assoc}
use Rattle.std.proofs.lemmas.List.{append-nil}
use Rattle.std.proofs.Math.Nat.{le-max_left, le-max_right, max-le, max_comm, max-eq_left}
use mathlib.Core.List.{IsPrefix}
use Rattle.live_set.specs.Loads.{LoadValue}
use Rattle.snapshot_store.specs.SlotBook.{Event, batches_in, batches_of, shown_of}

batches_in-append : (n : ℕ) (t : List LoadValue) (xs ys : List (List LoadValue)) → batches_in n t (xs ++ ys)
    ≡ batches_in n t xs ++ ys
batches_in-append zero t xs ys = refl
batches_in-append (suc n) t xs ys = refl

pub batches_of-append : (a b : List Event) → batches_of (a ++ b) ≡ batches_of a ++ batches_of b
batches_of-append [] b = refl
batches_of-append (e ∷ es) b = ap (λ ts. batches_in e.0 e.1 ts) (batches_of-append es b)
    ∙ batches_in-append e.0 e.1 (batches_of es) (batches_of b)

pub batches_made : (a : List Event) (t : List LoadValue) → batches_of (a ++ (0, t) ∷ []) ≡ batches_of a ++ t ∷ []
batches_made a t = batches_of-append a ((0, t) ∷ [])

batches_in_shown : (n : ℕ) (t : List LoadValue) (ts : List (List LoadValue)) → 0 < n → batches_in n t ts ≡ ts
batches_in_shown zero t ts some = absurd (omega (arith, some))
batches_in_shown (suc n) t ts some = refl

pub batches_shown : (a : List Event) (n : ℕ) (t : List LoadValue) → 0 < n → batches_of (a ++ (n, t) ∷ []) ≡ batches_of a
batches_shown a n t some = batches_of-append a ((n, t) ∷ [])
    ∙ (ap (λ ts. batches_of a ++ ts) (batches_in_shown n t [] some)
    ∙ append-nil (batches_of a))

pub shown_more : (a b : List Event) → shown_of a ≤ shown_of (a ++ b)
shown_more [] b = omega arith
shown_more (e ∷ es) b =
    let i = shown_more es b in
    let r = le-max_right e.0 (shown_of (es ++ b)) in
    max-le (le-max_left e.0 (shown_of (es ++ b))) (omega (arith, i, r))

pub shown_made : (a : List Event) (t : List LoadValue) → shown_of (a ++ (0, t) ∷ []) ≡ shown_of a
shown_made [] t = refl
shown_made (e ∷ es) t = ap (λ (n : ℕ). max e.0 n) (shown_made es t)

pub shown_shown : (a : List Event) (n : ℕ) (t : List LoadValue) → shown_of a ≤ n → shown_of (a ++ (n, t) ∷ []) ≡ n
shown_shown [] n t le = max-eq_left (omega arith)
shown_shown (e ∷ es) n t le =
    let l = le-max_left e.0 (shown_of es) in let r = le-max_right e.0 (shown_of es) in
    ap (λ (m : ℕ). max e.0 m) (shown_shown es n t (omega (arith, le, r))) ∙ (max_comm e.0 n
    ∙ max-eq_left (omega (arith, le, l)))

pub batches_prefix : (a z : List Event) → IsPrefix a z → IsPrefix (batches_of a) (batches_of z)
batches_prefix a z p = (batches_of p.0, sym (batches_of-append a p.0) ∙ ap batches_of p.1)

pub shown_prefix : (a z : List Event) → IsPrefix a z → shown_of a ≤ shown_of z
shown_prefix a z p = subst (λ (l : List Event). shown_of a ≤ shown_of l) p.1 (shown_more a p.0)

pub prefix_trans : (a b c : List Event) → IsPrefix a b → IsPrefix b c → IsPrefix a c
prefix_trans a b c p q = (p.0 ++ q.0, sym (append_assoc a p.0 q.0) ∙ (ap (λ l. l ++ q.0) p.1 ∙ q.1))

pub length_prefix : (a z : List Event) → IsPrefix a z → length (batches_of a) ≤ length (batches_of z)
length_prefix a z p = let q = batches_prefix a z p in
    omega (arith, ap (length {A = List LoadValue}) q.1, length-append (batches_of a) q.0)
