-- How a log grows.
use Rattle.std.proofs.Common.{◌≡◌, ◌∙◌, ◌⊎◌, ℕ, List, [], ◌∷◌, ◌++◌, ap, sym, subst, refl, inl, inr, append-nil}
use Rattle.std.proofs.Common.{append_assoc, Some, None, Result, Ok, Err}
use Rattle.devices.specs.Logs.{AnswersFirst, Came, Event, Gave, Gives, Grows, Log, came, given_bytes}

pub grows_none : (log : Log) → Grows log log []
grows_none None = tt
grows_none (Some events) = sym (append-nil events)

pub grows_then : (a b c : Log) (first second : List Event) → Grows a b first → Grows b c second
    → Grows a c (first ++ second)
grows_then None b c first second grown more = tt
grows_then (Some xs) None c first second grown more = absurd grown
grows_then (Some xs) (Some ys) None first second grown more = absurd more
grows_then (Some xs) (Some ys) (Some zs) first second grown more =
    more ∙ ap (λ es. es ++ second) grown ∙ append_assoc xs first second

pub came_then : (first second : List Event) → came (first ++ second) ≡ came first ++ came second
came_then [] second = refl
came_then (Came bytes ∷ first) second = ap (λ xs. bytes ++ xs) (came_then first second)
    ∙ sym (append_assoc bytes (came first) (came second))
came_then (Gave bytes ∷ first) second = came_then first second

pub given_then : (first second : List Event) → given_bytes (first ++ second) ≡ given_bytes first ++ given_bytes second
given_then [] second = refl
given_then (Came bytes ∷ first) second = given_then first second
given_then (Gave bytes ∷ first) second = ap (λ xs. bytes ++ xs) (given_then first second)
    ∙ sym (append_assoc bytes (given_bytes first) (given_bytes second))

-- ---- the law

-- an element of two lists is one of the first, or one of the second
abbrev Splits : List Event → List Event → List Event → Event → List Event → Type 0
Splits xs us ys y zs = ((rest : List Event) × (xs ≡ ys ++ y ∷ rest))
    ⊎ ((front : List Event) × (ys ≡ xs ++ front) × (us ≡ front ++ y ∷ zs))

splits_more : (x : Event) (xs us ys : List Event) (y : Event) (zs : List Event) → Splits xs us ys y zs
    → Splits (x ∷ xs) us (x ∷ ys) y zs
splits_more x xs us ys y zs (inl h) = inl (h.0, ap (λ es. x ∷ es) h.1)
splits_more x xs us ys y zs (inr h) = inr (h.0, ap (λ es. x ∷ es) h.1, h.2)

splits : (xs us ys : List Event) (y : Event) (zs : List Event) → xs ++ us ≡ ys ++ y ∷ zs → Splits xs us ys y zs
splits [] us ys y zs e = inr (ys, refl, e)
splits (x ∷ xs) us [] y zs e = inl (xs, cc)
splits (x ∷ xs) us (z ∷ ys) y zs e =
    let head : x ≡ z = cc in
    let tail : xs ++ us ≡ ys ++ y ∷ zs = cc in
    subst (λ w. Splits (x ∷ xs) us (w ∷ ys) y zs) head (splits_more x xs us ys y zs (splits xs us ys y zs tail))

-- no read was made
pub answers_none : (Means : List ℕ → List ℕ → Type 0) → AnswersFirst Means []
answers_none Means [] bytes after e = absurd (cc)
answers_none Means (x ∷ before) bytes after e = absurd (cc)

pub answers_then : (Means : List ℕ → List ℕ → Type 0) (first second : List Event) → AnswersFirst Means first
    → AnswersFirst (λ c g. Means (came first ++ c) (given_bytes first ++ g)) second
    → AnswersFirst Means (first ++ second)
answers_then Means first second had more before bytes after e =
    either (splits first second before (Came bytes) after e)
  where
    either : Splits first second before (Came bytes) after → Means (came before) (given_bytes before)
    either (inl h) = had before bytes h.0 h.1
    either (inr h) =
        let P : List Event → Type 0 = λ es. Means (came es) (given_bytes es) in
        subst P (sym h.1) (rw (came_then first h.0, given_then first h.0) (more h.0 bytes after h.2))

-- one read
pub answers_read : (Means : List ℕ → List ℕ → Type 0) (bytes : List ℕ) → Means [] []
    → AnswersFirst Means (Came bytes ∷ [])
answers_read Means part means [] bytes after e = means
answers_read Means part means (x ∷ []) bytes after e = absurd (cc)
answers_read Means part means (x ∷ y ∷ before) bytes after e = absurd (cc)

-- one write
pub answers_write : (Means : List ℕ → List ℕ → Type 0) (bytes : List ℕ) → AnswersFirst Means (Gave bytes ∷ [])
answers_write Means part [] bytes after e = absurd (cc)
answers_write Means part (x ∷ []) bytes after e = absurd (cc)
answers_write Means part (x ∷ y ∷ before) bytes after e = absurd (cc)

-- what holds in each case of one meaning holds in those of another that it implies
pub answers_so : (Means Other : List ℕ → List ℕ → Type 0) (events : List Event)
    → ((c g : List ℕ) → Means c g → Other c g) → AnswersFirst Means events → AnswersFirst Other events
answers_so Means Other events so had before bytes after e =
    so (came before) (given_bytes before) (had before bytes after e)

-- a device without a log
pub gives_unlogged : {T E : Type 0} (bytes : List ℕ) (result : Result T E) → Gives None None bytes result
gives_unlogged bytes (Ok done) = tt
gives_unlogged bytes (Err fault) = inl tt
