-- Requests with their numbers, and arguments found by number.
use Rattle.std.proofs.Common.{◌≡◌, ℕ, Bool, List, [], ◌∷◌, ◌++◌, Option, refl, sym, ap, ◌∙◌}
use Rattle.std.specs.List.{list_all}
use Rattle.numbered_arguments.specs.declared.Kind.{Kind}
use Rattle.numbered_arguments.specs.declared.Numbered.{Numbered}
use Rattle.numbered_arguments.specs.declared.Request.{Request}
use Rattle.numbered_arguments.specs.declared.numbering.Numbering.{Numbering}
use Rattle.numbered_arguments.specs.declared.index.Index.{Index}
use Rattle.numbered_arguments.specs.NumberedArguments.{numbered_requests, numbered_from, number_or, next_after, is_kind}
use Rattle.numbered_arguments.specs.NumberedArguments.{has, is_fit, has_fit, fits_in, are_covered}
use Rattle.numbered_arguments.specs.NumberingStates.{next_behind, HasNumbered}
use Rattle.numbered_arguments.specs.NumberedIndex.{IsIndexOf, has_in, fits_by}

abbrev argument : ℕ → Kind → Numbered
argument number kind = record { number = number; kind = kind }

numbered_more : (next : ℕ) (rs more : List Request)
    → numbered_from next (rs ++ more) ≡ numbered_from next rs ++ numbered_from (next_behind next rs) more
numbered_more next [] more = refl
numbered_more next (r ∷ rs) more = ap (λ (xs : List Numbered). argument (number_or r.number next) r.kind ∷ xs)
    (numbered_more (next_after r.number next) rs more)

next_more : (next : ℕ) (rs more : List Request)
    → next_behind next (rs ++ more) ≡ next_behind (next_behind next rs) more
next_more next [] more = refl
next_more next (r ∷ rs) more = next_more (next_after r.number next) rs more

pub numbered_next : (old new : Numbering) (requests : List Request) (r : Request) (number : ℕ)
    → number ≡ number_or r.number old.next → new.next ≡ next_after r.number old.next
    → new.asked.items ≡ old.asked.items ++ argument number r.kind ∷ [] → HasNumbered requests old
    → HasNumbered (requests ++ r ∷ []) new
numbered_next old new requests r number e f g h =
    let here : number ≡ number_or r.number (next_behind 1 requests) = e ∙ ap (number_or r.number) h.next in
    record {
      asked = g ∙ ap (λ (xs : List Numbered). xs ++ argument number r.kind ∷ []) h.asked
          ∙ ap (λ (n : ℕ). numbered_requests requests ++ argument n r.kind ∷ []) here
          ∙ sym (numbered_more 1 requests (r ∷ []));
      next = f ∙ ap (next_after r.number) h.next ∙ sym (next_more 1 requests (r ∷ []));
    }

-- ---- found by number

all_same : {X : Type 0} (p q : X → Bool) → ((x : X) → p x ≡ q x) → (xs : List X) → list_all p xs ≡ list_all q xs
all_same p q same [] = refl
all_same p q same (x ∷ xs) = rw (same x, all_same p q same xs) refl

pub covered_is : (index : Index) (ones asked : List Numbered) → IsIndexOf index asked
    → list_all (has_in index) ones ≡ are_covered ones asked
covered_is index ones asked is = all_same (has_in index) (has asked)
    (λ a. ap (λ (found : Option Kind). is_kind found a.kind) (is a.number)) ones

pub fits_is : (index : Index) (ones asked : List Numbered) → IsIndexOf index asked
    → list_all (fits_by index) ones ≡ fits_in ones asked
fits_is index ones asked is = all_same (fits_by index) (has_fit asked)
    (λ a. ap (λ (found : Option Kind). is_fit found a.kind) (is a.number)) ones
