-- A loop over a list that is taken apart from its front.
use Rattle.catserve.proofs.Common.{◌≡◌, ◌∙◌, sym, ap, ℕ, ◌+◌, List, [], ◌∷◌, ◌++◌, length, append_assoc, arith}
use Rattle.catserve.proofs.Common.{append-nil, nil_from_length}

-- the list is what was taken, followed by what is left; `count` elements are left
pub record HasTaken {X : Type 0} (all taken left : List X) (count : ℕ) : Type 0 where
  pub whole : taken ++ left ≡ all
  pub count_is : count ≡ length left

pub takes_one : {X : Type 0} {all taken left rest : List X} {count less : ℕ} (x : X)
    → HasTaken all taken left count → left ≡ x ∷ rest → count ≡ less + 1 → HasTaken all (taken ++ x ∷ []) rest less
takes_one {taken} {rest} x h next one = record {
  whole = append_assoc taken (x ∷ []) rest ∙ ap (λ xs. taken ++ xs) (sym next) ∙ h.whole;
  count_is = omega (arith, h.count_is, ap length next, one);
}

pub takes_all : {X : Type 0} {all taken left : List X} {count : ℕ} → HasTaken all taken left count → count ≡ 0 → taken
    ≡ all
takes_all {taken} {left} h none =
    sym (append-nil taken) ∙ ap (λ xs. taken ++ xs) (sym (nil_from_length left (sym h.count_is ∙ none))) ∙ h.whole
