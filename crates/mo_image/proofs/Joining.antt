-- Forms joined one after another.
use Rattle.mo_image.proofs.Kit.{◌≡◌, ℕ, zero, suc, ◌+◌, ◌<◌, ◌≤◌, List, [], ◌∷◌, ◌++◌, length, take, Some, cond, refl}
use Rattle.mo_image.proofs.Kit.{sym, ap, ◌∙◌, arith, append_assoc, join_with_byte, append-nil, length-take-le}
use Rattle.std.specs.Prelude.{slice_get, ◌==◌}
use Rattle.std.proofs.lemmas.List.{take_more, take_all}
use Rattle.mo_image.proofs.Lists.{differs}
use Rattle.std.proofs.lemmas.Option.{get_or_from_slice_get, slice_get_within}

join_snoc : (x : List ℕ) (xs : List (List ℕ)) (form : List ℕ) → join_with_byte 0 ((x ∷ xs) ++ form ∷ [])
    ≡ join_with_byte 0 (x ∷ xs) ++ (0 ∷ form)
join_snoc x [] form = refl
join_snoc x (y ∷ xs) form = ap (λ (t : List ℕ). x ++ (0 ∷ t)) (join_snoc y xs form)
    ∙ sym (append_assoc x (0 ∷ join_with_byte 0 (y ∷ xs)) (0 ∷ form))

snoc : (xs : List (List ℕ)) (form : List ℕ) → 0 < length xs → join_with_byte 0 (xs ++ form ∷ []) ≡ join_with_byte 0 xs
    ++ (0 ∷ form)
snoc [] form some = absurd (omega arith)
snoc (x ∷ xs) form some = join_snoc x xs form

one_more : (forms : List (List ℕ)) (k : ℕ) (form : List ℕ) → slice_get forms k ≡ Some form → take (k + 1) forms
    ≡ take k forms ++ form ∷ []
one_more forms k form at = take_more forms k form (slice_get_within forms k form at)
    ∙ ap (λ (f : List ℕ). take k forms ++ f ∷ []) (get_or_from_slice_get forms k form form at)

first_form : (forms : List (List ℕ)) (form : List ℕ) → slice_get forms 0 ≡ Some form → form
    ≡ join_with_byte 0 (take 1 forms)
first_form [] form at = absurd cc
first_form (f ∷ forms) form at = let same : f ≡ form = cc in sym same

-- after what was there before
pub joined_none : (start : List ℕ) (forms : List (List ℕ)) → start ≡ start ++ join_with_byte 0 (take 0 forms)
joined_none start forms = sym (append-nil start)

pub joined_step : (forms : List (List ℕ)) (k : ℕ) (form start before after : List ℕ) → slice_get forms k ≡ Some form
    → before ≡ start ++ join_with_byte 0 (take k forms) → after ≡ cond (k == 0) (before ++ form) (before ++ 0 ∷ form)
    → after ≡ start ++ join_with_byte 0 (take (k + 1) forms)
joined_step forms zero form start before after at so_far grown =
    grown ∙ ap (λ (t : List ℕ). t ++ form) (so_far ∙ append-nil start)
    ∙ ap (λ (t : List ℕ). start ++ t) (first_form forms form at)
joined_step forms (suc k) form start before after at so_far grown =
    let within : suc k < length forms = slice_get_within forms (suc k) form at in
    let long : 0 < length (take (suc k) forms) = omega (
      arith,
      length-take-le {A = List ℕ} (suc k) forms
          (omega (arith, within)),
    ) in
    let added : after ≡ before ++ (0 ∷ form) = grown ∙ rw (differs (suc k) 0 (λ e. omega (arith, e))) refl in
    added ∙ ap (λ (t : List ℕ). t ++ (0 ∷ form)) so_far ∙ append_assoc start (join_with_byte 0 (take (suc k) forms))
    (0 ∷ form)
    ∙ ap (λ (t : List ℕ). start ++ t) (sym (snoc (take (suc k) forms) form long)
    ∙ ap (join_with_byte 0) (sym (one_more forms (suc k) form at)))

pub joined_all : (forms : List (List ℕ)) (k : ℕ) (start text : List ℕ) → length forms ≤ k → text ≡ start
    ++ join_with_byte 0 (take k forms) → text ≡ start ++ join_with_byte 0 forms
joined_all forms k start text all so_far = so_far ∙ ap (λ (fs : List (List ℕ)). start ++ join_with_byte 0 fs)
    (take_all k forms all)
