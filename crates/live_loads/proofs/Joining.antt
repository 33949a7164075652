-- Lists of batches: their joined lists, and beginnings of them.
use Rattle.std.proofs.Common.{◌≡◌, ℕ, ◌+◌, ◌^◌, ◌<◌, ◌≤◌, List, [], ◌∷◌, ◌++◌, length, fold, sym, refl, ap, ◌∙◌, subst}
use Rattle.std.proofs.Common.{append_assoc, length-append, arith, Bool, true, false, MatchBool}
use Rattle.std.proofs.lemmas.List.{append-nil}
use lib.Dec.{leb}
use Rattle.std.proofs.lemmas.Bool.Decides.{nat_tests}
use mathlib.Core.List.{IsPrefix}
use Rattle.std.proofs.lemmas.List.Sums.{fold-append}
use Rattle.live_set.specs.Loads.{LoadValue}
use Rattle.live_set.specs.Sets.{SetValue, with_load, no_loads, fold as fold_of}
use Rattle.live_loads.specs.Batches.{joined_loads, version_of, StartsWith, NoneEmpty, after_publish}

pub joined-append : (a b : List (List LoadValue)) → joined_loads (a ++ b) ≡ joined_loads a ++ joined_loads b
joined-append [] b = refl
joined-append (x ∷ xs) b = ap (λ l. x ++ l) (joined-append xs b)
    ∙ sym (append_assoc x (joined_loads xs) (joined_loads b))

pub begins_refl : (a : List (List LoadValue)) → StartsWith a a
begins_refl a = ([], sym (append-nil a))

pub begins_trans : (a b c : List (List LoadValue)) → StartsWith a b → StartsWith b c → StartsWith a c
begins_trans a b c p q = (q.0 ++ p.0, p.1 ∙ (ap (λ l. l ++ p.0) q.1 ∙ append_assoc c q.0 p.0))

pub begins_nil : (a : List (List LoadValue)) → StartsWith a []
begins_nil a = (a, refl)

none_joined : (rest : List (List LoadValue)) → NoneEmpty rest → length (joined_loads rest) ≡ 0 → rest ≡ []
none_joined [] full none = refl
none_joined ([] ∷ bs) full none = absurd (full.0 refl)
none_joined ((x ∷ xs) ∷ bs) full none = absurd (omega (arith, none))

full_rest : (a b : List (List LoadValue)) → NoneEmpty (a ++ b) → NoneEmpty b
full_rest [] b full = full
full_rest (x ∷ xs) b full = full_rest xs b full.1

pub full_snoc : (a : List (List LoadValue)) (x : LoadValue) (xs : List LoadValue) → NoneEmpty a
    → NoneEmpty (a ++ (x ∷ xs) ∷ [])
full_snoc [] x xs full = ((λ e. cc), tt)
full_snoc (b ∷ bs) x xs full = (full.0, full_snoc bs x xs full.1)

-- a beginning with as many loads as the list is the whole list
pub whole : (log v : List (List LoadValue)) → NoneEmpty log → StartsWith log v → version_of log ≡ version_of v → log ≡ v
whole log v full st same =
    let split : version_of log ≡ length (joined_loads v) + length (joined_loads st.0) =
    ap (λ l. length (joined_loads l)) st.1
    ∙ (ap length (joined-append v st.0) ∙ length-append (joined_loads v) (joined_loads st.0)) in
    let none : length (joined_loads st.0) ≡ 0 = omega (arith, split, same) in
    let f : NoneEmpty (v ++ st.0) = subst NoneEmpty st.1 full in
    st.1 ∙ (ap (λ l. v ++ l) (none_joined st.0 (full_rest v st.0 f) none) ∙ append-nil v)

-- what is published is joined to what was
pub joined-published : (v : List (List LoadValue)) (loads : List LoadValue) → joined_loads (after_publish v loads)
    ≡ joined_loads v
    ++ loads
joined-published v [] = sym (append-nil (joined_loads v))
joined-published v (x ∷ xs) = joined-append v ((x ∷ xs) ∷ []) ∙ ap (λ l. joined_loads v ++ l) (append-nil (x ∷ xs))

pub full-published : (v : List (List LoadValue)) (loads : List LoadValue) → NoneEmpty v
    → NoneEmpty (after_publish v loads)
full-published v [] full = full
full-published v (x ∷ xs) full = full_snoc v x xs full

pub begins-published : (v u : List (List LoadValue)) (loads : List LoadValue) → StartsWith v u
    → StartsWith (after_publish v loads) u
begins-published v u [] st = st
begins-published v u (x ∷ xs) st = begins_trans (v ++ (x ∷ xs) ∷ []) v u ((x ∷ xs) ∷ [], refl) st

pub version-published : (v : List (List LoadValue)) (loads : List LoadValue) → version_of (after_publish v loads)
    ≡ version_of v + length loads
version-published v loads = ap length (joined-published v loads) ∙ length-append (joined_loads v) loads

version-fold : (s : SetValue) (loads : List LoadValue) → s.version + length loads < 2 ^ 64
    → (fold with_load s loads).version ≡ s.version + length loads
version-fold s [] fits = omega arith
version-fold s (x ∷ xs) fits = let a : (with_load s x).version ≡ s.version + 1 = omega (arith, fits) in
    let i = version-fold (with_load s x) xs (omega (arith, a, fits)) in omega (arith, a, i)

pub version-fold_of : (loads : List LoadValue) → length loads < 2 ^ 64 → (fold_of loads).version ≡ length loads
version-fold_of loads fits = let i = version-fold no_loads loads (omega (arith, fits)) in omega (arith, i)

pub fold-append_of : (xs ys : List LoadValue) → fold_of (xs ++ ys) ≡ fold with_load (fold_of xs) ys
fold-append_of xs ys = fold-append with_load no_loads xs ys

-- the set after a publish counts its loads
pub version-fold_set : (s : SetValue) (v : List (List LoadValue)) (loads : List LoadValue) → s.version ≡ version_of v
    → version_of v + length loads < 2 ^ 64 → (fold with_load s loads).version ≡ version_of (after_publish v loads)
version-fold_set s v loads is room = let a = version-fold s loads (omega (arith, is, room)) in let b = version-published
    v loads in omega (arith, a, b, is)

-- of two beginnings of one list, the one with fewer loads is a beginning of the other
pub ordered : (a b z : List (List LoadValue)) → IsPrefix a z → IsPrefix b z → NoneEmpty a → NoneEmpty b
    → version_of a ≤ version_of b → StartsWith b a
ordered [] b z p q fa fb le = (b, refl)
ordered ([] ∷ xs) [] z p q fa fb le = absurd (fa.0 refl)
ordered ((x ∷ w) ∷ xs) [] z p q fa fb le = absurd (omega arith)
ordered (x ∷ xs) (y ∷ ys) [] p q fa fb le = absurd (cc (p.1))
ordered (x ∷ xs) (y ∷ ys) (z ∷ zs) p q fa fb le =
    let heads : x ≡ y = cc (p.1, q.1) in
    let n : length x + version_of xs ≤ length y + version_of ys = omega
    (arith, length-append x (joined_loads xs), length-append y (joined_loads ys), le) in
    let rest = ordered xs ys zs (p.0, cc (p.1)) (q.0, cc (q.1)) fa.1 fb.1
    (omega (arith, n, ap (length {A = LoadValue}) heads)) in
    (rest.0, cc (heads, rest.1))

pub compared : (a b z : List (List LoadValue)) (m n : ℕ) → IsPrefix a z → IsPrefix b z → NoneEmpty a → NoneEmpty b → m
    ≡ version_of a → n ≡ version_of b
    → MatchBool (leb m n) (StartsWith b a) (StartsWith a b × (version_of b < version_of a))
compared a b z m n p q fa fb is is' = by_case (leb m n) refl where
  by_case : (t : Bool) → leb m n ≡ t → MatchBool t (StartsWith b a) (StartsWith a b × (version_of b < version_of a))
  by_case true e = let le : m ≤ n = grind (arith, nat_tests) in ordered a b z p q fa fb (omega (arith, le, is, is'))
  by_case false e = let lt : n < m = grind (arith, nat_tests) in let k : version_of b < version_of a = omega
      (arith, lt, is, is') in (ordered b a z q p fb fa (omega (arith, k)), k)

pub full_add : (v : List (List LoadValue)) (e : List LoadValue) → NoneEmpty v → 0 < length e → NoneEmpty (v ++ e ∷ [])
full_add v [] full some = absurd (omega arith)
full_add v (x ∷ xs) full some = full_snoc v x xs full

pub version-add : (v : List (List LoadValue)) (e : List LoadValue) → version_of (v ++ e ∷ []) ≡ version_of v + length e
version-add v e = ap length (joined-append v (e ∷ []) ∙ ap (λ l. joined_loads v ++ l) (append-nil e))
    ∙ length-append (joined_loads v) e
