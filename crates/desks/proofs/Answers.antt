-- Answers stay right as the list of batches grows.
use Rattle.std.proofs.Common.{◌≡◌, ◌≤◌, ◌+◌, ℕ, List, [], ◌∷◌, ◌++◌, take, length, sym, refl, ap, subst, ◌∙◌, arith}
use Rattle.std.proofs.Common.{length-append}
use Rattle.std.specs.String.{string_bytes}
use Rattle.live_set.specs.Loads.{LoadValue}
use Rattle.live_set.specs.Asks.{QueryValue, IsAnswer as HasText}
use Rattle.live_versions.specs.Batches.{joined_loads, version_of, StartsWith}
use Rattle.live_loads.proofs.Joining.{joined-append, begins_trans, begins_refl}
use Rattle.desks.specs.declared.desk.Answer.{Answer}
use Rattle.desks.specs.Answers.{IsVersionedAnswer, Answered}

take_front : (xs ys : List LoadValue) → take (length xs) (xs ++ ys) ≡ xs
take_front [] ys = refl
take_front (x ∷ xs) ys = ap (λ l. x ∷ l) (take_front xs ys)

-- the first loads of a list that begins with these batches
pub first_loads : (batches front : List (List LoadValue)) → StartsWith batches front
    → take (version_of front) (joined_loads batches) ≡ joined_loads front
first_loads batches front st = ap (λ l. take (version_of front) (joined_loads l)) st.1
    ∙ (ap (λ l. take (version_of front) l) (joined-append front st.0)
    ∙ take_front (joined_loads front) (joined_loads st.0))

pub version_grows : (batches front : List (List LoadValue)) → StartsWith batches front
    → version_of front ≤ version_of batches
version_grows batches front st =
    let e : version_of batches ≡ version_of front + length (joined_loads st.0) = ap (λ l. length (joined_loads l)) st.1
    ∙ (ap length (joined-append front st.0) ∙ length-append (joined_loads front) (joined_loads st.0)) in
    omega (arith, e)

-- an answer stays one as the list grows
pub answer_grows : (new old : List (List LoadValue)) (q : QueryValue) (a : Answer) → StartsWith new old
    → IsVersionedAnswer old q a → IsVersionedAnswer new q a
answer_grows new old q a st is =
    let far : StartsWith new is.front = begins_trans new old is.front st is.begins in
    let here : take a.version (joined_loads old) ≡ joined_loads is.front =
    ap (λ n. take n (joined_loads old)) is.version_is
    ∙ first_loads old is.front is.begins in
    let there : take a.version (joined_loads new) ≡ joined_loads is.front =
    ap (λ n. take n (joined_loads new)) is.version_is
    ∙ first_loads new is.front far in
    record {
      front = is.front;
      begins = far;
      version_is = is.version_is;
      text_is =
          subst (λ (l : List LoadValue). HasText l q (string_bytes a.text)) (here ∙ sym there) is.text_is;
    }

pub answered_grows : (new old : List (List LoadValue)) (least : ℕ) (qs : List QueryValue) (rs : List Answer)
    → StartsWith new old → Answered old least qs rs → Answered new least qs rs
answered_grows new old least [] [] st h = tt
answered_grows new old least (q ∷ qs) (a ∷ rs) st h =
    (h.0, answer_grows new old q a st h.1, answered_grows new old a.version qs rs st h.2)
answered_grows new old least [] (a ∷ rs) st h = absurd h
answered_grows new old least (q ∷ qs) [] st h = absurd h

-- one more answer, from an entry that isn't older
pub answered_more : (new old : List (List LoadValue)) (least : ℕ) (qs : List QueryValue) (rs : List Answer)
    (q : QueryValue) (a : Answer) → StartsWith new old → least ≤ version_of new → a.version ≡ version_of new
    → HasText (joined_loads new) q (string_bytes a.text)
    → Answered old least qs rs → Answered new least (qs ++ q ∷ []) (rs ++ a ∷ [])
answered_more new old least [] [] q a st le version is h =
    let all : take a.version (joined_loads new) ≡ joined_loads new = ap (λ n. take n (joined_loads new)) version
    ∙ first_loads new new (begins_refl new) in
    let one : IsVersionedAnswer new q a = record {
      front = new;
      begins = begins_refl new;
      version_is = version;
      text_is =
          subst (λ (l : List LoadValue). HasText l q (string_bytes a.text)) (sym all) is;
    } in
    (omega (arith, le, version), one, tt)
answered_more new old least (p ∷ qs) (b ∷ rs) q a st le version is h =
    let mine = answer_grows new old p b st h.1 in
    let low : b.version ≤ version_of new = let g =
    version_grows new mine.front mine.begins in omega (arith, g, mine.version_is) in
    (h.0, mine, answered_more new old b.version qs rs q a st low version is h.2)
answered_more new old least [] (b ∷ rs) q a st le version is h = absurd h
answered_more new old least (p ∷ qs) [] q a st le version is h = absurd h

-- a smaller bound holds too
pub answered_less : (batches : List (List LoadValue)) (less least : ℕ) (qs : List QueryValue) (rs : List Answer)
    → less ≤ least → Answered batches least qs rs → Answered batches less qs rs
answered_less batches less least [] [] le h = tt
answered_less batches less least (q ∷ qs) (a ∷ rs) le h = (omega (arith, le, h.0), h.1, h.2)
answered_less batches less least [] (a ∷ rs) le h = absurd h
answered_less batches less least (q ∷ qs) [] le h = absurd h
