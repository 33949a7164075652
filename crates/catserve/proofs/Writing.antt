-- Texts that are written with escapes.
use Rattle.catserve.proofs.Common.{◌≡◌, ◌∙◌, refl, sym, ap, ℕ, suc, ◌+◌, ◌<◌, if◌then◌else◌, true, List, [], ◌∷◌, ◌++◌}
use Rattle.catserve.proofs.Common.{length, get_or, take, drop, ◌-◌, add-one, drop-cons, length-take, Some, None, Result}
use Rattle.catserve.proofs.Common.{Ok, Err, OnOk, arith, append_assoc, get_or-take, take_rest, take-append-drop, escape}
use Rattle.catserve.proofs.Common.{escaped_text}
use Rattle.std.specs.Result.{is_ok}
use Rattle.std.proofs.lemmas.List.Concat.{flat_map-append}
use Rattle.bstr.specs.Bytes.{is_in}
use Rattle.bstr.specs.Find.{IsFirstByte}

-- a byte that needs no escape
escape-plain : (b : ℕ) → (is_in (10 ∷ 9 ∷ 92 ∷ []) b ≡ true → ⊥) → escape b ≡ b ∷ []
unfolding is_in
escape-plain b none = grind (arith, none)

-- bytes that need none are written as they are
escaped-plain : (run : List ℕ) → ((k : ℕ) → k < length run → is_in (10 ∷ 9 ∷ 92 ∷ []) (get_or run k 0) ≡ true → ⊥)
    → escaped_text run ≡ run
escaped-plain [] none = refl
escaped-plain (b ∷ run) none = rw (
  escape-plain b (none 0 (omega arith)),
  escaped-plain run (λ k lt. none (suc k) (omega arith)),
) refl

-- the bytes before the first that needs an escape, that byte, and what follows
escaped-at : (rest : List ℕ) (at : ℕ) → IsFirstByte (is_in (10 ∷ 9 ∷ 92 ∷ [])) rest (Some at) → escaped_text rest
    ≡ take at rest ++ (escape (get_or rest at 0) ++ escaped_text (drop (at + 1) rest))
escaped-at rest at found =
    let lt : at < length rest = found.0.high in
    let run = take at rest in
    let plain : escaped_text run ≡ run = escaped-plain run (λ k below.
    let before : k < at = omega (arith, length-take at rest) in
    rw (get_or-take at rest k 0 before) (found.0.before k (omega arith) before)) in
    let next : drop at rest ≡ get_or rest at 0 ∷ drop (at + 1) rest = rw add-one (drop-cons rest at 0 lt) in
    ap escaped_text (sym (take-append-drop at rest)) ∙ flat_map-append escape run (drop at rest)
    ∙ ap (λ front. front ++ escaped_text (drop at rest)) plain ∙ ap (λ behind. run ++ escaped_text behind) next

-- a run and the escape after it were written
pub writes_more : (whole out with_run with_escape rest : List ℕ) (at : ℕ) → out ++ escaped_text rest ≡ whole
    → IsFirstByte (is_in (10 ∷ 9 ∷ 92 ∷ [])) rest (Some at) → with_run ≡ out ++ take at rest → with_escape ≡ with_run
    ++ escape (get_or rest at 0) → with_escape ++ escaped_text (take (length rest - (at + 1)) (drop (at + 1) rest))
    ≡ whole
writes_more whole out with_run with_escape rest at h found e f = rw (take_rest rest (at + 1), f, e)
    (append_assoc (out ++ take at rest) (escape (get_or rest at 0)) (escaped_text (drop (at + 1) rest))
    ∙ append_assoc out (take at rest) _ ∙ ap (λ zs. out ++ zs) (sym (escaped-at rest at found)) ∙ h)

-- the last run was written
pub writes_all : {E : Type 0} (whole out with_run rest : List ℕ) (r : Result (Unit {0}) E) → out ++ escaped_text rest
    ≡ whole
    → IsFirstByte (is_in (10 ∷ 9 ∷ 92 ∷ [])) rest None → with_run ≡ if is_ok r then out ++ rest else out
    → OnOk r (with_run ≡ whole)
writes_all whole out with_run rest (Ok x) h none e = e ∙ ap (λ zs. out ++ zs)
    (sym (escaped-plain rest (λ k lt. none k (omega arith) lt))) ∙ h
writes_all whole out with_run rest (Err x) h none e = tt
