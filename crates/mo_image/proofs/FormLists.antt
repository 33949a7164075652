-- A translation split into its forms, one after another.
use Rattle.std.proofs.Common.{◌≡◌, ℕ, zero, suc, ◌+◌, ◌<◌, Bool, true, false, cond, not, List, [], ◌∷◌, length, drop}
use Rattle.std.proofs.Common.{Some, refl, sym, ap, ◌∙◌, arith}
use Rattle.std.specs.Prelude.{◌==◌, slice_get}
use Rattle.std.specs.List.{position_or_len, before_first, after_first, slice_split, onto_first, count_by}
use Rattle.std.proofs.lemmas.List.{length-drop}
use Rattle.std.proofs.lemmas.List.Splits.{slice_split_first, length-slice_split}

abbrev is_nul : ℕ → Bool
is_nul b = b == 0

pub cut_first : (text form others : List ℕ) → (position_or_len is_nul text < length text)
    × (form ≡ before_first is_nul text) × (others ≡ after_first is_nul text) → slice_split is_nul text ≡ form
    ∷ slice_split is_nul others
cut_first text form others (within, first, rest) =
    slice_split_first is_nul text 0 within ∙ ap (λ (f : List ℕ). f ∷ slice_split is_nul (after_first is_nul text))
    (sym first) ∙ ap (λ (o : List ℕ). form ∷ slice_split is_nul o) (sym rest)

pub cut_none : (text : List ℕ) → position_or_len is_nul text ≡ length text → slice_split is_nul text ≡ text ∷ []
cut_none [] e = refl
cut_none (x ∷ text) e = of (is_nul x) refl (λ h. cut_none text h)
  where
    of : (b : Bool) → is_nul x ≡ b → (position_or_len is_nul text ≡ length text → slice_split is_nul text ≡ text ∷ [])
        → cond (is_nul x) ([] ∷ slice_split is_nul text) (onto_first x (slice_split is_nul text)) ≡ (x ∷ text) ∷ []
    of true is rest = absurd (omega (arith, sym e ∙ ap (λ b. cond (not b) (1 + position_or_len is_nul text) 0) is))
    of false is rest =
        let same : position_or_len is_nul text ≡ length text = omega
        (arith, sym (ap (λ b. cond (not b) (1 + position_or_len is_nul text) 0) is) ∙ e) in
        rw is (ap (onto_first x) (rest same))

-- the form at k, once those before it have been taken
pub next_form : (forms left rest : List (List ℕ)) (k : ℕ) (form : List ℕ) → left ≡ drop k forms → left ≡ form ∷ rest
    → rest ≡ drop (k + 1) forms
next_form [] left rest k form at split = absurd (omega (
  arith,
  ap length (sym split ∙ at),
  length-drop {A = List ℕ} k
      [],
))
next_form (f ∷ forms) left rest zero form at split = let same : f ∷ forms ≡ form ∷ rest = sym at ∙ split in cc
next_form (f ∷ forms) left rest (suc k) form at split =
    let after : suc (k + 1) ≡ suc k + 1 = omega arith in
    next_form forms left rest k form at split ∙ ap (λ n. drop n (f ∷ forms)) after

pub form_at : (forms left rest : List (List ℕ)) (k : ℕ) (form : List ℕ) → left ≡ drop k forms → left ≡ form ∷ rest
    → slice_get forms k ≡ Some form
form_at [] left rest k form at split = absurd (omega (arith, ap length (sym split ∙ at), length-drop {A = List ℕ} k []))
form_at (f ∷ forms) left rest zero form at split = let same : f ∷ forms ≡ form ∷ rest = sym at ∙ split in cc
form_at (f ∷ forms) left rest (suc k) form at split = form_at forms left rest k form at split

-- a form is left
pub some_left : (forms left : List (List ℕ)) (k : ℕ) → left ≡ drop k forms → k < length forms → left ≡ [] → ⊥
some_left forms left k at within none = omega (arith, ap length (sym at ∙ none), length-drop k forms)

-- a text has one part more than offsets where it is cut
pub form_count_is : (text : List ℕ) (forms : List (List ℕ)) (n : ℕ) → n ≡ count_by is_nul text → forms
    ≡ slice_split is_nul text → n + 1 ≡ length forms
form_count_is text forms n counted are = omega (arith, counted, ap length are, length-slice_split is_nul text)
