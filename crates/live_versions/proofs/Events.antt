-- In legal histories the version that a reader has seen never falls, and is that of whole batches, counted from the
-- first.
use Rattle.std.proofs.Common.{◌≡◌, ℕ, ◌+◌, ◌≤◌, ◌<◌, ◌==◌, Bool, true, false, max, if◌then◌else◌, List, [], ◌∷◌, ◌++◌}
use Rattle.std.proofs.Common.{length, sym, refl, ap, ◌∙◌, subst, append_assoc, length-append, arith}
use Rattle.std.specs.Prelude.{⊤}
use Rattle.std.proofs.lemmas.List.{append-nil}
use Rattle.std.proofs.lemmas.List.Sums.{fold-append}
use Rattle.std.proofs.lemmas.Bool.Decides.{nat_tests}
use lib.Dec.{leb}
use Rattle.live_loads.specs.Batches.{joined_loads, version_of, StartsWith}
use Rattle.live_versions.specs.History.{Event, State, Accept, Refuse, Publish, Enter, Learn, new_store, after, state_of}
use Rattle.live_versions.specs.History.{WasPublished, MayFollow, IsLegal, IsWhole, NeverFalls, EntersNoLess}
use Rattle.live_versions.specs.History.{SeesWholeBatches, EntersWholeBatches}
use Rattle.live_loads.proofs.Joining.{joined-append, begins_refl, begins_trans, begins-published}

-- one more event
state_of-snoc : (first : List Event) (e : Event) → state_of (first ++ e ∷ []) ≡ after (state_of first) e
state_of-snoc first e = fold-append after new_store first (e ∷ [])

snoc-append : (first : List Event) (e : Event) (rest : List Event) → (first ++ e ∷ []) ++ rest ≡ first ++ e ∷ rest
snoc-append first e rest = append_assoc first (e ∷ []) rest

legal-first : (most : ℕ) (first rest : List Event) → IsLegal most (first ++ rest) → IsLegal most first
legal-first most first rest legal before e behind is = legal before e (behind ++ rest)
    (ap (λ l. l ++ rest) is ∙ append_assoc before (e ∷ behind) rest)

-- what an event leaves of the published batches
step_grows : (s : State) (e : Event) → StartsWith (after s e).batches s.batches
step_grows s (Accept load) = begins_refl s.batches
step_grows s Refuse = begins_refl s.batches
step_grows s Publish = begins-published s.batches s.batches s.pending (begins_refl s.batches)
step_grows s (Enter reader version) = begins_refl s.batches
step_grows s (Learn reader version) = begins_refl s.batches

batches_grow : (first rest : List Event) → StartsWith (state_of (first ++ rest)).batches (state_of first).batches
batches_grow first [] = subst (λ (l : List Event). StartsWith (state_of l).batches (state_of first).batches)
    (sym (append-nil first)) (begins_refl (state_of first).batches)
batches_grow first (e ∷ rest) =
    let one : StartsWith (state_of (first ++ e ∷ [])).batches (state_of first).batches = subst
    (λ (s : State). StartsWith s.batches (state_of first).batches) (sym (state_of-snoc first e))
    (step_grows (state_of first) e) in
    let more : StartsWith (state_of (first ++ e ∷ rest)).batches (state_of (first ++ e ∷ [])).batches = subst
    (λ (l : List Event). StartsWith (state_of l).batches (state_of (first ++ e ∷ [])).batches)
    (snoc-append first e rest) (batches_grow (first ++ e ∷ []) rest) in
    begins_trans (state_of (first ++ e ∷ rest)).batches (state_of (first ++ e ∷ [])).batches (state_of first).batches
    more one

-- what an event needs
abbrev Fits : State → Event → Type 0
Fits s (Enter reader version) = version ≡ version_of s.batches
Fits s (Learn reader version) = IsWhole s version
Fits s _ = ⊤

was_whole : (history : List Event) (version : ℕ) → WasPublished new_store history version
    → IsWhole (state_of history) version
was_whole history version was = (
  (state_of was.0).batches,
  subst
      (λ (l : List Event). StartsWith (state_of l).batches (state_of was.0).batches) (sym was.2)
      (batches_grow was.0 was.1),
  was.3,
)

fits : (most : ℕ) (first : List Event) (e : Event) → MayFollow most new_store first e → Fits (state_of first) e
fits most first (Accept load) may = tt
fits most first Refuse may = tt
fits most first Publish may = tt
fits most first (Enter reader version) may = may
fits most first (Learn reader version) may = was_whole first version may

whole_le : (s : State) (version : ℕ) → IsWhole s version → version ≤ version_of s.batches
whole_le s version whole =
    let front = whole.0 in
    let rest = whole.1.0 in
    let sum : version_of s.batches ≡ version_of front + version_of rest = ap version_of whole.1.1
    ∙ (ap length (joined-append front rest) ∙ length-append (joined_loads front) (joined_loads rest)) in
    omega (arith, sum, whole.2)

pick : (b : Bool) (x y : ℕ) (P : ℕ → Type 0) → P x → P y → P (if b then x else y)
pick true x y P p q = p
pick false x y P p q = q

pick_by : (b : Bool) (x y : ℕ) (P : ℕ → Type 0) → (b ≡ true → P x) → P y → P (if b then x else y)
pick_by true x y P p q = p refl
pick_by false x y P p q = q

greater : (a b : ℕ) (P : ℕ → Type 0) → P a → P b → P (max a b)
greater a b P p q = by_case (leb a b) refl where
  by_case : (t : Bool) → leb a b ≡ t → P (max a b)
  by_case true e = let le : a ≤ b = grind (arith, nat_tests) in let is : max a b
      ≡ b = omega (arith, le) in subst P (sym is) q
  by_case false e = let lt : b < a = grind (arith, nat_tests) in let is : max a b
      ≡ a = omega (arith, lt) in subst P (sym is) p

abbrev SeesWhole : State → Type 0
SeesWhole s = (reader : ℕ) → IsWhole s (s.seen reader)

step_whole : (s : State) (e : Event) → Fits s e → SeesWhole s → SeesWhole (after s e)
step_whole s (Accept load) fit all reader = all reader
step_whole s Refuse fit all reader = all reader
step_whole s Publish fit all reader = let x = all reader in (x.0, begins-published s.batches x.0 s.pending x.1, x.2)
step_whole s (Enter r version) fit all reader = pick (reader == r) version (s.seen reader) (λ n. IsWhole s n)
    (s.batches, begins_refl s.batches, fit) (all reader)
step_whole s (Learn r version) fit all reader = pick (reader == r) (max (s.seen r) version) (s.seen reader)
    (λ n. IsWhole s n) (greater (s.seen r) version (λ n. IsWhole s n) (all r) fit) (all reader)

step_le : (s : State) (e : Event) → Fits s e → SeesWhole s → (reader : ℕ) → s.seen reader ≤ (after s e).seen reader
step_le s (Accept load) fit all reader = omega arith
step_le s Refuse fit all reader = omega arith
step_le s Publish fit all reader = omega arith
step_le s (Enter r version) fit all reader = pick (reader == r) version (s.seen reader) (λ n. s.seen reader ≤ n)
    (let k = whole_le s (s.seen reader) (all reader) in omega (arith, k, fit)) (omega arith)
step_le s (Learn r version) fit all reader = pick_by (reader == r) (max (s.seen r) version) (s.seen reader)
    (λ n. s.seen reader ≤ n)
    (λ is. let same : reader ≡ r = grind (arith, nat_tests, is) in let k : s.seen reader
    ≡ s.seen r = ap s.seen same in omega (arith, k)) (omega arith)

legal_next : (most : ℕ) (first : List Event) (e : Event) (rest : List Event) → IsLegal most (first ++ e ∷ rest)
    → Fits (state_of first) e
legal_next most first e rest legal = fits most first e (legal first e rest refl)

legal_on : (most : ℕ) (first : List Event) (e : Event) (rest : List Event) → IsLegal most (first ++ e ∷ rest)
    → IsLegal most ((first ++ e ∷ []) ++ rest)
legal_on most first e rest legal = subst (λ (l : List Event). IsLegal most l) (sym (snoc-append first e rest)) legal

whole_next : (most : ℕ) (first : List Event) (e : Event) → Fits (state_of first) e → SeesWhole (state_of first)
    → SeesWhole (state_of (first ++ e ∷ []))
whole_next most first e fit all = subst (λ (s : State). SeesWhole s) (sym (state_of-snoc first e))
    (step_whole (state_of first) e fit all)

whole_from : (most : ℕ) (first rest : List Event) → IsLegal most (first ++ rest) → SeesWhole (state_of first)
    → SeesWhole (state_of (first ++ rest))
whole_from most first [] legal all = subst (λ (l : List Event). SeesWhole (state_of l)) (sym (append-nil first)) all
whole_from most first (e ∷ rest) legal all =
    subst (λ (l : List Event). SeesWhole (state_of l)) (snoc-append first e rest)
    (whole_from most (first ++ e ∷ []) rest (legal_on most first e rest legal)
    (whole_next most first e (legal_next most first e rest legal) all))

opened_whole : SeesWhole new_store
opened_whole reader = ([], begins_refl [], refl)

pub sees_whole : SeesWholeBatches
sees_whole most history reader legal = whole_from most [] history legal opened_whole reader

le_from : (most : ℕ) (first rest : List Event) (reader : ℕ) → IsLegal most (first ++ rest) → SeesWhole (state_of first)
    → (state_of first).seen reader ≤ (state_of (first ++ rest)).seen reader
le_from most first [] reader legal all = let is : (state_of (first ++ [])).seen reader
    ≡ (state_of first).seen reader = ap (λ (l : List Event). (state_of l).seen reader) (append-nil first) in omega
    (arith, is)
le_from most first (e ∷ rest) reader legal all =
    let fit = legal_next most first e rest legal in
    let one : (state_of first).seen reader ≤ (state_of (first ++ e ∷ [])).seen reader = subst
    (λ (s : State). (state_of first).seen reader ≤ s.seen reader) (sym (state_of-snoc first e))
    (step_le (state_of first) e fit all reader) in
    let more = le_from most (first ++ e ∷ []) rest reader (legal_on most first e rest legal)
    (whole_next most first e fit all) in
    let is : (state_of ((first ++ e ∷ []) ++ rest)).seen reader
    ≡ (state_of (first ++ e ∷ rest)).seen reader = ap (λ (l : List Event). (state_of l).seen reader)
    (snoc-append first e rest) in
    omega (arith, one, more, is)

pub never_falls : NeverFalls
never_falls most first rest reader legal = le_from most first rest reader legal
    (λ r. sees_whole most first r (legal-first most first rest legal))

pub enters_whole : EntersWholeBatches
enters_whole most history reader version legal =
    let fit : version ≡ version_of (state_of history).batches = legal history (Enter reader version) [] refl in
    ((state_of history).batches, begins_refl (state_of history).batches, fit)

pub enters_no_less : EntersNoLess
enters_no_less most first between reader version legal =
    let before = first ++ between in
    let here = legal-first most before (Enter reader version ∷ []) legal in
    let le = never_falls most first between reader here in
    let top = whole_le (state_of before) ((state_of before).seen reader) (sees_whole most before reader here) in
    let fit : version ≡ version_of (state_of before).batches = legal before (Enter reader version) [] refl in
    omega (arith, le, top, fit)
