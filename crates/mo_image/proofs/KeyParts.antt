-- A key split at its EOT and joined again is the key, and keys can be compared part by part.
use Rattle.std.proofs.Common.{◌≡◌, ℕ, ◌+◌, ◌<◌, ◌≤◌, Bool, true, false, cond, eqb, ltb, List, [], ◌∷◌, ◌++◌, length}
use Rattle.std.proofs.Common.{get_or, take, drop, Option, Some, None, Ordering, refl, sym, ap, ◌∙◌, arith}
use Rattle.std.specs.Prelude.{option_map}
use Rattle.std.specs.Ordering.{nat_cmp, ordering_then}
use Rattle.std.specs.declared.cmp.Ordering.TheVariants.{Less}
use Rattle.std.specs.Cmp.Lexicographic.{slice_cmp}
use Rattle.std.specs.List.{position_or_len, before_first, after_first}
use Rattle.std.proofs.lemmas.Bool.{ltb-true, eqb-true}
use Rattle.std.proofs.lemmas.List.{take-append-drop, drop_more, length-take-le}
use Rattle.std.proofs.lemmas.List.Sums.{split_at_first, passes_at_first}
use Rattle.mo_image.specs.Entry.{key_bytes}
use Rattle.mo_image.specs.Parts.{cut, behind}

abbrev joined_at : List ℕ → Bool → Option (List ℕ × List ℕ)
joined_at k test = cond test (Some (before_first (λ b. eqb b 4) k, after_first (λ b. eqb b 4) k)) None

rejoined_by : (k : List ℕ) (test : Bool) → ltb (position_or_len (λ b. eqb b 4) k) (length k) ≡ test
    → key_bytes (option_map (λ p. p.0) (joined_at k test)) (behind k (joined_at k test)) ≡ k
rejoined_by k true e =
    let inside : position_or_len (λ b. eqb b 4) k < length k = ltb-true _ _ e in
    let is4 : get_or k (position_or_len (λ b. eqb b 4) k) 0 ≡ 4 = eqb-true _ _
    (passes_at_first (λ b. eqb b 4) k 0 inside) in
    ap (λ (x : ℕ). before_first (λ b. eqb b 4) k ++ (x ∷ after_first (λ b. eqb b 4) k)) (sym is4)
    ∙ sym (split_at_first (λ b. eqb b 4) k 0 inside)
rejoined_by k false e = refl

pub rejoined : (k : List ℕ) → key_bytes (option_map (λ p. p.0) (cut 4 k)) (behind k (cut 4 k)) ≡ k
rejoined k = rejoined_by k (ltb (position_or_len (λ b. eqb b 4) k) (length k)) refl

-- ---- comparing lists part by part

pub then_assoc : (a b c : Ordering) → ordering_then (ordering_then a b) c ≡ ordering_then a (ordering_then b c)
then_assoc Less b c = refl
then_assoc _ b c = refl

pub cmp-append : (a b x y : List ℕ) → length a ≡ length b → slice_cmp nat_cmp (a ++ x) (b ++ y)
    ≡ ordering_then (slice_cmp nat_cmp a b) (slice_cmp nat_cmp x y)
cmp-append [] [] x y e = refl
cmp-append (a ∷ xs) (b ∷ bs) x y e = ap (ordering_then (nat_cmp a b)) (cmp-append xs bs x y (omega (arith, e)))
    ∙ sym (then_assoc (nat_cmp a b) (slice_cmp nat_cmp xs bs) (slice_cmp nat_cmp x y))
cmp-append _ _ x y e = absurd (omega (arith, e))

-- compares a list that is no longer than b with b and more after it
pub cmp_shorter : (a b : List ℕ) (y : ℕ) (ys : List ℕ) → length a ≤ length b → slice_cmp nat_cmp a (b ++ (y ∷ ys))
    ≡ ordering_then (slice_cmp nat_cmp a b) Less
cmp_shorter [] [] y ys le = refl
cmp_shorter [] (b ∷ bs) y ys le = refl
cmp_shorter (a ∷ xs) [] y ys le = absurd (omega (arith, le))
cmp_shorter (a ∷ xs) (b ∷ bs) y ys le = ap (ordering_then (nat_cmp a b)) (cmp_shorter xs bs y ys (omega (arith, le)))
    ∙ sym (then_assoc (nat_cmp a b) (slice_cmp nat_cmp xs bs) Less)

-- compares a key that is longer than the context, part by part
pub cmp_parts : (stored context id rest : List ℕ) (a b d t u : Ordering) → length context < length stored → rest
    ≡ drop (length context + 1) stored → a ≡ slice_cmp nat_cmp (take (length context) stored) context → b
    ≡ nat_cmp (get_or stored (length context) 0) 4 → d ≡ slice_cmp nat_cmp rest id → t ≡ ordering_then a b → u
    ≡ ordering_then t d → u ≡ slice_cmp nat_cmp stored (context ++ (4 ∷ id))
cmp_parts stored context id rest a b d t u long er ea eb ed et eu =
    let n = length context in
    let split : stored ≡ take n stored ++ (get_or stored n 0 ∷ drop (n + 1) stored) = sym (take-append-drop n stored)
    ∙ ap (λ (x : List ℕ). take n stored ++ x) (drop_more stored n 0 long) in
    let side : slice_cmp nat_cmp stored (context ++ (4 ∷ id))
    ≡ ordering_then (slice_cmp nat_cmp (take n stored) context)
    (ordering_then (nat_cmp (get_or stored n 0) 4) (slice_cmp nat_cmp (drop (n + 1) stored) id)) =
    ap (λ (x : List ℕ). slice_cmp nat_cmp x (context ++ (4 ∷ id))) split
    ∙ cmp-append (take n stored) context (get_or stored n 0 ∷ drop (n + 1) stored) (4 ∷ id)
    (length-take-le n stored (omega arith)) in
    rw (
      eu,
      et,
      ed,
      ea,
      eb,
      er,
      then_assoc (slice_cmp nat_cmp (take n stored) context) (nat_cmp (get_or stored n 0) 4)
          (slice_cmp nat_cmp (drop (n + 1) stored) id),
    ) (sym side)
