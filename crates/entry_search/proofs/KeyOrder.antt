-- Comparing keys with contexts.
use Rattle.std.proofs.Common.{◌≡◌, ℕ, ◌≤◌, List, [], ◌∷◌, ◌++◌, length, take, drop, Ordering, refl, sym, ap, ◌∙◌, arith}
use Rattle.std.proofs.Common.{append_assoc}
use Rattle.std.specs.Ordering.{nat_cmp, ordering_then, ordering_reverse}
use Rattle.std.specs.Cmp.Lexicographic.{slice_cmp}
use Rattle.std.proofs.lemmas.Cmp.{nat_list_cmp_total}
use Rattle.std.proofs.lemmas.List.{take-append-drop, length-take-le}
use Rattle.mo_image.proofs.KeyParts.{cmp-append, then_assoc}

-- compares two keys with contexts, split where the first context ends
pub cmp_cut : (c d i j : List ℕ) → length c ≤ length d → slice_cmp nat_cmp (c ++ (4 ∷ i)) (d ++ (4 ∷ j))
    ≡ ordering_then (slice_cmp nat_cmp c (take (length c) d)) (slice_cmp nat_cmp (4 ∷ i) (drop (length c) d ++ (4 ∷ j)))
cmp_cut c d i j le =
    let split : d ++ (4 ∷ j) ≡ take (length c) d ++ (drop (length c) d ++ (4 ∷ j)) = ap (λ (x : List ℕ). x ++ (4 ∷ j))
    (sym (take-append-drop (length c) d)) ∙ append_assoc (take (length c) d) (drop (length c) d) (4 ∷ j) in
    ap (slice_cmp nat_cmp (c ++ (4 ∷ i))) split ∙ cmp-append c (take (length c) d) (4 ∷ i)
    (drop (length c) d ++ (4 ∷ j)) (sym (length-take-le (length c) d le))

pub longer_some : (c d i j front rest more : List ℕ) (byte : ℕ) (o p q t u : Ordering) → length c ≤ length d → front
    ≡ take (length c) d → rest ≡ drop (length c) d → rest ≡ byte ∷ more → o ≡ slice_cmp nat_cmp c front → p
    ≡ nat_cmp 4 byte → q ≡ slice_cmp nat_cmp i (more ++ (4 ∷ j)) → t ≡ ordering_then o p → u ≡ ordering_then t q → u
    ≡ slice_cmp nat_cmp (c ++ (4 ∷ i)) (d ++ (4 ∷ j))
longer_some c d i j front rest more byte o p q t u le ef er es eo ep eq et eu =
    let tail : drop (length c) d ≡ byte ∷ more = sym er ∙ es in
    let cut : slice_cmp nat_cmp (c ++ (4 ∷ i)) (d ++ (4 ∷ j))
    ≡ ordering_then (slice_cmp nat_cmp c (take (length c) d))
    (ordering_then (nat_cmp 4 byte) (slice_cmp nat_cmp i (more ++ (4 ∷ j)))) = cmp_cut c d i j le
    ∙ ap (λ (x : List ℕ). ordering_then (slice_cmp nat_cmp c (take (length c) d))
    (slice_cmp nat_cmp (4 ∷ i) (x ++ (4 ∷ j)))) tail in
    rw (
      eu,
      et,
      eo,
      ep,
      eq,
      ef,
      then_assoc (slice_cmp nat_cmp c (take (length c) d)) (nat_cmp 4 byte)
          (slice_cmp nat_cmp i (more ++ (4 ∷ j))),
    ) (sym cut)

pub longer_none : (c d i j front rest : List ℕ) (o q u : Ordering) → length c ≤ length d → front ≡ take (length c) d
    → rest ≡ drop (length c) d → length rest ≡ 0 → o ≡ slice_cmp nat_cmp c front → q ≡ slice_cmp nat_cmp i j → u
    ≡ ordering_then o q → u ≡ slice_cmp nat_cmp (c ++ (4 ∷ i)) (d ++ (4 ∷ j))
longer_none c d i j front rest o q u le ef er none eo eq eu =
    let tail : drop (length c) d ≡ [] = sym er ∙ no_items rest none in
    let cut : slice_cmp nat_cmp (c ++ (4 ∷ i)) (d ++ (4 ∷ j))
    ≡ ordering_then (slice_cmp nat_cmp c (take (length c) d)) (slice_cmp nat_cmp i j) = cmp_cut c d i j le
    ∙ ap (λ (x : List ℕ). ordering_then (slice_cmp nat_cmp c (take (length c) d))
    (slice_cmp nat_cmp (4 ∷ i) (x ++ (4 ∷ j)))) tail in
    rw (eu, eo, eq, ef) (sym cut)
  where
    no_items : (xs : List ℕ) → length xs ≡ 0 → xs ≡ []
    no_items [] e = refl
    no_items (x ∷ xs) e = absurd (omega (arith, e))

-- compares the two the other way round
pub reversed : (a b : List ℕ) (o r : Ordering) → o ≡ slice_cmp nat_cmp b a → r ≡ ordering_reverse o → r
    ≡ slice_cmp nat_cmp a b
reversed a b o r eo er = er ∙ ap ordering_reverse eo ∙ sym (nat_list_cmp_total.antisymm a b)

-- compares a key with a context and one without
pub mixed : (t i j context id other : List ℕ) (o r : Ordering) → context ≡ t → id ≡ i → other ≡ j → o
    ≡ slice_cmp nat_cmp other (context ++ (4 ∷ id)) → r ≡ ordering_reverse o → r ≡ slice_cmp nat_cmp (t ++ (4 ∷ i)) j
mixed t i j context id other o r et ei ej eo er = reversed (t ++ (4 ∷ i)) j o r (rw (et, ei, ej) at eo) er
