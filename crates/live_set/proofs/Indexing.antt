-- The index of a load among loads in consecutive runs.
use Rattle.live_set.proofs.Kit.{◌≡◌, ℕ, zero, suc, ◌+◌, ◌-◌, ◌<◌, ◌≤◌, min, List, [], ◌∷◌, ◌++◌, length, flat_map, drop}
use Rattle.live_set.proofs.Kit.{get_or, slice_get, find, Option, Some, None, MatchOption, Bool, refl, sym, ap, ◌∙◌}
use Rattle.live_set.proofs.Kit.{arith, get_or_default, length-append, LoadValue, is_for, Rises, IsAt, probe, IsPlaceFor}
use Rattle.live_set.proofs.Kit.{take, false≢true}
use Rattle.std.proofs.Common.{is_some}
use Rattle.std.proofs.lemmas.Option.{slice_get-get_or}
use Rattle.live_set.proofs.Running.{joined_at}
use Rattle.live_set.proofs.Slotting.{find_at}

-- ---- an index in joined lists

pub get_front : {X : Type 0} (xs ys : List X) (i : ℕ) → i < length xs → slice_get (xs ++ ys) i ≡ slice_get xs i
get_front [] ys i lt = absurd (omega arith)
get_front (x ∷ xs) ys zero lt = refl
get_front (x ∷ xs) ys (suc i) lt = get_front xs ys i (omega arith)

pub get_back : {X : Type 0} (xs ys : List X) (i : ℕ) → slice_get (xs ++ ys) (length xs + i) ≡ slice_get ys i
get_back [] ys i = ap (slice_get ys) (omega arith)
get_back (x ∷ xs) ys i =
    let at : length (x ∷ xs) + i ≡ suc (length xs + i) = omega arith in
    ap (slice_get (x ∷ (xs ++ ys))) at ∙ get_back xs ys i

pub get_rest : {X : Type 0} (xs ys : List X) (i : ℕ) → length xs ≤ i
    → slice_get (xs ++ ys) i ≡ slice_get ys (i - length xs)
get_rest xs ys i le =
    let at : i ≡ length xs + (i - length xs) = omega arith in
    ap (slice_get (xs ++ ys)) at ∙ get_back xs ys (i - length xs)

pub get_some : {X : Type 0} (xs ys : List X) (i : ℕ) (x : X) → slice_get xs i ≡ Some x → slice_get (xs ++ ys) i ≡ Some x
get_some [] ys i x is = absurd (false≢true (ap is_some is))
get_some (y ∷ xs) ys zero x is = is
get_some (y ∷ xs) ys (suc i) x is = get_some xs ys i x is

-- ---- the load with an index, in one of some runs

module _ {R : Type 0} (of : R → List LoadValue) (runs : List R) (i : ℕ) (r : R) (here : i < length runs)
    (read : r ≡ get_or runs i r) (index left : ℕ) (is : index ≡ length (flat_map of (take i runs)) + left) where
  about_run : flat_map of runs ≡ flat_map of (take i runs) ++ (of r ++ flat_map of (drop (suc i) runs))
  about_run = joined_at of runs i r here
      ∙ ap (λ (s : R). flat_map of (take i runs) ++ (of s ++ flat_map of (drop (suc i) runs))) (sym read)

  pub load_here : (x : LoadValue) → slice_get (of r) left ≡ Some x → slice_get (flat_map of runs) index ≡ Some x
  load_here x at = ap (λ ls. slice_get ls index) about_run
      ∙ ap (slice_get (flat_map of (take i runs) ++ (of r ++ flat_map of (drop (suc i) runs)))) is
      ∙ get_back (flat_map of (take i runs)) (of r ++ flat_map of (drop (suc i) runs)) left
      ∙ get_some (of r) (flat_map of (drop (suc i) runs)) left x at

-- ---- the place of a load

-- in a run by itself
pub place_own : (domain locale : List ℕ) (run : List LoadValue) (i : ℕ) → Rises run → IsAt run domain locale i
    → IsPlaceFor run domain locale i
place_own domain locale run i rises at =
    let x = get_or run i (probe domain locale) in
    let found : find (is_for domain locale) run ≡ Some x = find_at run domain locale i x rises at
    (get_or_default run i (probe domain locale) x at.in_range) in
    record {
      inside = at.in_range;
      some = ap is_some found;
      at = λ lt. slice_get-get_or run i (probe domain locale) at.in_range ∙ sym found;
    }

module _ (domain locale : List ℕ) (run : List LoadValue) where
  abbrev p : LoadValue → Bool
  p = is_for domain locale

  -- in the first run
  pub placed_first : (upper : List LoadValue) (o : Option ℕ) → find p (run ++ upper) ≡ find p run
      → MatchOption o (find p run ≡ None) (IsPlaceFor run domain locale)
      → MatchOption o (find p (run ++ upper) ≡ None) (IsPlaceFor (run ++ upper) domain locale)
  placed_first upper None same none = same ∙ none
  placed_first upper (Some i) same at = record {
    inside = omega (arith, at.inside, length-append run upper);
    some = ap is_some same ∙ at.some;
    at = λ lt. get_front run upper i at.inside ∙ at.at lt ∙ sym same;
  }

  -- in a run behind others
  pub place_behind : (lower upper : List LoadValue) (i place : ℕ) → find p (lower ++ (run ++ upper)) ≡ find p run
      → place ≡ min (length lower + i) 18446744073709551615 → IsPlaceFor run domain locale i
      → IsPlaceFor (lower ++ (run ++ upper)) domain locale place
  place_behind lower upper i place same is at = record {
    inside = omega (arith, at.inside, length-append lower (run ++ upper), length-append run upper, is);
    some = ap is_some same ∙ at.some;
    at = λ lt.
        let there : place ≡ length lower + i = omega (arith, is, lt) in
        let small : i < 18446744073709551615 = omega (arith, there, lt) in
        ap (slice_get (lower ++ (run ++ upper))) there ∙ get_back lower (run ++ upper) i
        ∙ get_front run upper i at.inside ∙ at.at small ∙ sym same;
  }
