-- Many look-ups at once: the answers so far.
use Rattle.live_set.proofs.Kit.{◌≡◌, ℕ, ◌+◌, ◌-◌, List, [], ◌∷◌, ◌++◌, length, slice_get, Some, sym, ap, subst, ◌∙◌}
use Rattle.live_set.proofs.Kit.{arith, inl, inr, refl, Bor, cases_lt, length-append, Entry}
use Rattle.std.proofs.lemmas.Option.{slice_get_within}
use Rattle.live_set.specs.Asks.{QueryValue, HasAnswer, HaveAnswers}
use Rattle.live_set.proofs.Indexing.{get_front, get_rest}

-- the answers to the first i queries
pub record Answered (maps : List ℕ → List ℕ → List Entry) (queries : List QueryValue) (i : ℕ)
    (answers : List (Bor (List ℕ))) : Type 0 where
  pub count : length answers ≡ i
  pub each : (j : ℕ) (query : QueryValue) (text : Bor (List ℕ)) → slice_get queries j ≡ Some query
      → slice_get answers j ≡ Some text → HasAnswer maps query text.now

pub answered_none : (maps : List ℕ → List ℕ → List Entry) (queries : List QueryValue) → Answered maps queries 0 []
answered_none maps queries = record { count = refl; each = λ j query text at got. absurd cc }

some_is : {X : Type 0} (x y : X) → Some x ≡ Some y → x ≡ y
some_is x y e = cc

pub answered_more : (maps : List ℕ → List ℕ → List Entry) (queries : List QueryValue) (i : ℕ)
    (answers : List (Bor (List ℕ))) (query : QueryValue) (text : Bor (List ℕ)) → Answered maps queries i answers
    → slice_get queries i ≡ Some query → HasAnswer maps query text.now
    → Answered maps queries (i + 1) (answers ++ (text ∷ []))
answered_more maps queries i answers query text so here is =
    let longer : length (answers ++ (text ∷ [])) ≡ i + 1 = length-append answers (text ∷ []) ∙ omega (arith, so.count)
    in
    record {
      count = longer;
      each = λ j q t at got. elim (cases_lt j i) [
        | inl lt ↦ so.each j q t at (sym (get_front answers (text ∷ []) j (omega (arith, lt, so.count))) ∙ got)
        | inr le ↦
            let same : i ≡ j = omega (arith, le, longer, slice_get_within (answers ++ (text ∷ [])) j t got) in
            let q_is : query ≡ q = some_is query q (sym here ∙ ap (slice_get queries) same ∙ at) in
            let first : j - length answers ≡ 0 = omega (arith, same, so.count) in
            let last : slice_get (answers ++ (text ∷ [])) j ≡ Some text =
            get_rest answers (text ∷ []) j (omega (arith, le, so.count)) ∙ ap (slice_get (text ∷ [])) first in
            let t_is : text ≡ t = some_is text t (sym last ∙ got) in
            subst (λ (x : Bor (List ℕ)). HasAnswer maps q x.now) t_is
            (subst (λ (x : QueryValue). HasAnswer maps x text.now) q_is is)
      ];
    }

pub all_answered : (maps : List ℕ → List ℕ → List Entry) (queries : List QueryValue) (i : ℕ)
    (answers : List (Bor (List ℕ))) → i ≡ length queries → Answered maps queries i answers
    → HaveAnswers maps queries answers
all_answered maps queries i answers end so = record { count = so.count ∙ end; each = so.each }
