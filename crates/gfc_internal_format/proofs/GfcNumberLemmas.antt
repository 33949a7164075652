-- What directives ask for, numbered one by one.
use Rattle.std.proofs.Common.{◌≡◌, ℕ, List, [], ◌∷◌, ◌++◌, refl, sym, ap, ◌∙◌}
use Rattle.numbered_arguments.specs.declared.Numbered.{Numbered}
use Rattle.numbered_arguments.specs.declared.Request.{Request}
use Rattle.script_formats.specs.ScriptParts.{following_number}
use Rattle.gfc_internal_format.specs.declared.counting.Counted.{Counted}
use Rattle.gfc_internal_format.specs.GfcNumbers.{number_of, with_number, with_numbers_from, with_numbers, next_behind}
use Rattle.gfc_internal_format.specs.GfcNumbers.{HasCounted}

numbers_more : (next : ℕ) (rs : List Request) (r : Request)
    → with_numbers_from next (rs ++ r ∷ []) ≡ with_numbers_from next rs ++ with_number (next_behind next rs) r ∷ []
numbers_more next [] r = refl
numbers_more next (s ∷ rs) r = ap (λ (xs : List Numbered). with_number next s ∷ xs)
    (numbers_more (following_number (number_of next s)) rs r)

next_more : (next : ℕ) (rs : List Request) (r : Request)
    → next_behind next (rs ++ r ∷ []) ≡ following_number (number_of (next_behind next rs) r)
next_more next [] r = refl
next_more next (s ∷ rs) r = next_more (following_number (number_of next s)) rs r

-- one more was counted
pub counts_more : (old new : Counted) (rs : List Request) (r : Request)
    → new.asked.items ≡ old.asked.items ++ with_number old.next r ∷ []
    → new.next ≡ following_number (number_of old.next r) → HasCounted rs old → HasCounted (rs ++ r ∷ []) new
counts_more old new rs r e f h = record {
  asked = e ∙ ap (λ (xs : List Numbered). xs ++ with_number old.next r ∷ []) h.asked
      ∙ ap (λ (n : ℕ). with_numbers rs ++ with_number n r ∷ []) h.next ∙ sym (numbers_more 1 rs r);
  next = f ∙ ap (λ (n : ℕ). following_number (number_of n r)) h.next ∙ sym (next_more 1 rs r);
}
