-- Steps, and the values that they reach.
use Rattle.std.proofs.Common.{◌≡◌, ℕ, ◌+◌, ◌-◌, ◌<◌, ◌≤◌, Bool, true, false, cond, List}
use Rattle.std.proofs.Common.{[], ◌∷◌, ◌++◌, take, drop, length, get_or, Option, Some, None, Result}
use Rattle.std.proofs.Common.{Ok, Err, refl, sym, ap, ◌∙◌, arith, inl, inr, length-append, append_assoc}
use Rattle.std.specs.Prelude.{not, nat_lt, nat_le, ◌==◌, IfOk, IfSome}
use Rattle.std.specs.Option.{option_map}
use Rattle.std.proofs.lemmas.Bool.{cases_eq, cases_lt, ne_eqb, eq-eqb, le-leb, lt-leb, lt-ltb, le-ltb, ltb-false}
use Rattle.std.proofs.lemmas.List.{get_or_append_left, take-append-drop, drop_more, length-take, get_or_past}
use Rattle.std.proofs.Math.Seq.{get_or-append_seam}
use Rattle.po_header.specs.declared.steps.Step.{Step}
use Rattle.po_header.specs.declared.steps.Step.TheVariants.{Test}
use Rattle.po_header.specs.declared.token.Operator.TheVariants.{Equal, NotEqual, Less, Greater, AtMost, AtLeast}
use Rattle.po_header.specs.declared.tree.Node.{Node}
use Rattle.po_header.specs.TreeValue.{truth, opposite, choice, either, conjunction}
use Rattle.po_header.specs.ChoiceSteps.{AddsSteps, IsTest, chosen_step, node_value, remainder_of, is_within}
use Rattle.po_header.specs.ChoiceSteps.{value_reached, step_value, step_values, values_from, value_at}

-- ---- values of steps

pub values_from-append : (a b : List Step) (found : List (Option ℕ)) (n : ℕ) → values_from found n (a ++ b)
    ≡ values_from (values_from found n a) n b
values_from-append [] b found n = refl
values_from-append (s ∷ a) b found n = values_from-append a b (found ++ (step_value found n s ∷ [])) n

pub length-values_from : (steps : List Step) (found : List (Option ℕ)) (n : ℕ) → length (values_from found n steps)
    ≡ length found + length steps
length-values_from [] found n = omega arith
length-values_from (s ∷ steps) found n = omega (
  arith,
  length-values_from steps (found ++ (step_value found n s ∷ []))
      n,
  length-append found (step_value found n s ∷ []),
)

pub values_from-keeps : (steps : List Step) (found : List (Option ℕ)) (n k : ℕ) → k < length found
    → value_at (values_from found n steps) k ≡ value_at found k
values_from-keeps [] found n k lt = refl
values_from-keeps (s ∷ steps) found n k lt =
    values_from-keeps steps (found ++ (step_value found n s ∷ [])) n k
    (omega (arith, length-append found (step_value found n s ∷ [])))
    ∙ get_or_append_left found (step_value found n s ∷ []) None k lt

length-step_values : (steps : List Step) (n : ℕ) → length (step_values n steps) ≡ length steps
length-step_values steps n = omega (arith, length-values_from steps [] n)

-- appending steps leaves the earlier ones unchanged
pub reached-append : (old more : List Step) (n k : ℕ) → k < length old → value_reached (old ++ more) k n
    ≡ value_reached old k n
reached-append old more n k lt =
    ap (λ (vs : List (Option ℕ)). value_at vs k) (values_from-append old more [] n)
    ∙ values_from-keeps more (step_values n old) n k (omega (arith, length-step_values old n))

-- the step that was appended last
pub reached-last : (old : List Step) (s : Step) (n : ℕ) → value_reached (old ++ (s ∷ [])) (length old) n
    ≡ step_value (step_values n old) n s
reached-last old s n =
    ap (λ (vs : List (Option ℕ)). value_at vs (length old)) (values_from-append old (s ∷ []) [] n)
    ∙ ap (λ (k : ℕ). value_at (step_values n old ++ (step_value (step_values n old) n s ∷ [])) k)
    (sym (length-step_values old n))
    ∙ get_or-append_seam (step_values n old) (step_value (step_values n old) n s) [] None

-- ---- what was added

pub AddsSteps-map : (old new : List Step) (i : ℕ) (f g : ℕ → Option ℕ) → ((n : ℕ) → f n ≡ g n) → AddsSteps old new i f
    → AddsSteps old new i g
AddsSteps-map old new i f g same h = record {
  more = h.more;
  grown = h.grown;
  there = h.there;
  reaches = λ n. h.reaches n
      ∙ same n;
}

pub AddsSteps-step : (old new : List Step) (s : Step) (i : ℕ) → i ≡ length old → new ≡ old ++ s ∷ []
    → AddsSteps old new i (λ n. step_value (step_values n old) n s)
AddsSteps-step old new s i e f = record {
  more = s ∷ [];
  grown = f;
  there = omega (arith, ap length f, length-append old (s ∷ []));
  reaches = λ n. ap (λ (t : List Step). value_reached t i n) f ∙ ap (λ (k : ℕ). value_reached (old ++ (s ∷ [])) k n) e
      ∙ reached-last old s n;
}

-- earlier steps reach what they reached before
pub AddsSteps-keeps : (old new : List Step) (i : ℕ) (f : ℕ → Option ℕ) (k n : ℕ) → AddsSteps old new i f
    → k < length old
    → value_reached new k n ≡ value_reached old k n
AddsSteps-keeps old new i f k n h lt = ap (λ (t : List Step). value_reached t k n) h.grown
    ∙ reached-append old h.more n k lt

pub AddsSteps-longer : (old new : List Step) (i k : ℕ) (f : ℕ → Option ℕ) → AddsSteps old new i f → k < length old
    → k < length new
AddsSteps-longer old new i k f h lt = omega (arith, ap length h.grown, length-append old h.more)

pub AddsSteps-both : (old mid new : List Step) (i j : ℕ) (f g : ℕ → Option ℕ) → AddsSteps old mid i f
    → AddsSteps mid new j g
    → AddsSteps old new j g
AddsSteps-both old mid new i j f g h k = record {
  more = h.more ++ k.more;
  grown = k.grown ∙ ap (λ (t : List Step). t ++ k.more) h.grown ∙ append_assoc old h.more k.more;
  there = k.there;
  reaches = k.reaches;
}

-- ---- choices

choice-zero : (x : ℕ) (a b : Option ℕ) → x ≡ 0 → choice (Some x) a b ≡ b
choice-zero x a b e = rw (eq-eqb x 0 e) refl

choice-some : (x : ℕ) (a b : Option ℕ) → (x ≡ 0 → ⊥) → choice (Some x) a b ≡ a
choice-some x a b e = rw (ne_eqb x 0 e) refl

pub choice-either : (left right a b : Option ℕ) → choice (either left right) a b ≡ choice left a (choice right a b)
choice-either None right a b = refl
choice-either (Some x) None a b = elim (cases_eq x 0) [
  | inl e ↦ rw (eq-eqb x 0 e) refl
  | inr e ↦ rw (ne_eqb x 0 e) refl
]
choice-either (Some x) (Some y) a b = elim (cases_eq x 0) [
  | inl e ↦ elim (cases_eq y 0) [
    | inl f ↦ rw (eq-eqb x 0 e, eq-eqb y 0 f) refl
    | inr f ↦ rw (eq-eqb x 0 e, ne_eqb y 0 f)
        refl
  ]
  | inr e ↦ rw (ne_eqb x 0 e) refl
]

pub choice-conjoined : (left right a b : Option ℕ) → choice (conjunction left right) a b
    ≡ choice left (choice right a b) b
choice-conjoined None right a b = refl
choice-conjoined (Some x) None a b = elim (cases_eq x 0) [
  | inl e ↦ rw (eq-eqb x 0 e) refl
  | inr e ↦ rw (ne_eqb x 0 e) refl
]
choice-conjoined (Some x) (Some y) a b = elim (cases_eq x 0) [
  | inl e ↦ rw (eq-eqb x 0 e) refl
  | inr e ↦ elim (cases_eq y 0) [
    | inl f ↦ rw (ne_eqb x 0 e, eq-eqb y 0 f) refl
    | inr f ↦ rw (ne_eqb x 0 e, ne_eqb y 0 f)
        refl
  ]
]

pub choice-opposite : (operand a b : Option ℕ) → choice (option_map opposite operand) a b ≡ choice operand b a
choice-opposite None a b = refl
choice-opposite (Some x) a b = elim (cases_eq x 0) [
  | inl e ↦ rw (eq-eqb x 0 e) refl
  | inr e ↦ rw (ne_eqb x 0 e) refl
]

pub choice-truth : (t : Bool) (a b : Option ℕ) → choice (Some (truth t)) a b ≡ cond t a b
choice-truth true a b = refl
choice-truth false a b = refl

pub choice-not : (t : Bool) (a b : Option ℕ) → choice (Some (truth (not t))) a b ≡ cond t b a
choice-not true a b = refl
choice-not false a b = refl

-- ---- tests

within-equal : (x k : ℕ) → is_within k k x ≡ (x == k)
within-equal x k = elim (cases_eq x k) [
  | inl e ↦ rw (e, le-leb k k (omega arith), eq-eqb k k refl) refl
  | inr e ↦ elim (cases_lt x k) [
    | inl lt ↦ rw (lt-leb k x lt, ne_eqb x k e) refl
    | inr ge ↦ let gt : k < x = omega arith in rw (lt-leb x k gt, le-leb k x ge, ne_eqb x k e) refl
  ]
]

within-most : (x k : ℕ) → is_within 0 k x ≡ nat_le x k
within-most x k = rw (le-leb 0 x (omega arith)) refl

within-greater : (x k : ℕ) → nat_lt k x ≡ not (is_within 0 k x)
within-greater x k = elim (cases_lt k x) [
  | inl lt ↦ rw (within-most x k, lt-ltb k x lt, lt-leb x k lt) refl
  | inr ge ↦ rw (within-most x k, le-ltb k x ge, le-leb x k ge) refl
]

within-less : (x k : ℕ) → 0 < k → nat_lt x k ≡ is_within 0 (k - 1) x
within-less x k some = elim (cases_lt x k) [
  | inl lt ↦ rw (within-most x (k - 1), lt-ltb x k lt, le-leb x (k - 1) (omega arith)) refl
  | inr ge ↦ let gt : k - 1 < x = omega arith in rw (within-most x (k - 1), le-ltb x k ge, lt-leb x (k - 1) gt) refl
]

within-least : (x k : ℕ) → 0 < k → nat_le k x ≡ not (is_within 0 (k - 1) x)
within-least x k some = elim (cases_lt x k) [
  | inl lt ↦ rw (within-most x (k - 1), lt-leb k x lt, le-leb x (k - 1) (omega arith)) refl
  | inr ge ↦ let gt : k - 1 < x = omega arith in rw (within-most x (k - 1), le-leb k x ge, lt-leb x (k - 1) gt) refl
]

by_truth : (t w : Bool) (a b : Option ℕ) → t ≡ w → cond w a b ≡ choice (Some (truth t)) a b
by_truth t w a b e = sym (ap (λ (x : Bool). choice (Some (truth x)) a b) e ∙ choice-truth w a b)

by_not : (t w : Bool) (a b : Option ℕ) → t ≡ not w → cond w b a ≡ choice (Some (truth t)) a b
by_not t w a b e = sym (ap (λ (x : Bool). choice (Some (truth x)) a b) e ∙ choice-not w a b)

-- a test of one bound, in each of its forms
pub test-equal : (m k here there : ℕ) → IsTest (Test m k k here there) Equal m k here there
test-equal m k here there found n = by_truth _ _ (value_at found here) (value_at found there)
    (sym (within-equal (remainder_of m n) k))

pub test-not_equal : (m k here there : ℕ) → IsTest (Test m k k there here) NotEqual m k here there
test-not_equal m k here there found n = by_not _ _ (value_at found here) (value_at found there)
    (ap not (sym (within-equal (remainder_of m n) k)))

pub test-at_most : (m k here there : ℕ) → IsTest (Test m 0 k here there) AtMost m k here there
test-at_most m k here there found n = by_truth _ _ (value_at found here) (value_at found there)
    (sym (within-most (remainder_of m n) k))

pub test-greater : (m k here there : ℕ) → IsTest (Test m 0 k there here) Greater m k here there
test-greater m k here there found n = by_not _ _ (value_at found here) (value_at found there)
    (within-greater (remainder_of m n) k)

pub test-less : (m k here there : ℕ) → 0 < k → IsTest (Test m 0 (k - 1) here there) Less m k here there
test-less m k here there some found n = by_truth _ _ (value_at found here) (value_at found there)
    (within-less (remainder_of m n) k some)

pub test-at_least : (m k here there : ℕ) → 0 < k → IsTest (Test m 0 (k - 1) there here) AtLeast m k here there
test-at_least m k here there some found n = by_not _ _ (value_at found here) (value_at found there)
    (within-least (remainder_of m n) k some)

-- ---- running

-- a step comes after the steps before it
cut_step : (steps : List Step) (at : ℕ) (s : Step) → at < length steps → get_or steps at s ≡ s → steps
    ≡ (take at steps ++ (s ∷ [])) ++ drop (at + 1) steps
cut_step steps at s lt e =
    sym (take-append-drop at steps) ∙ ap (λ (t : List Step). take at steps ++ t)
    (drop_more steps at s lt ∙ ap (λ (x : Step). x ∷ drop (at + 1) steps) e)
    ∙ sym (append_assoc (take at steps) (s ∷ []) (drop (at + 1) steps))

pub reached-step : (steps : List Step) (at n : ℕ) (s : Step) → at < length steps → get_or steps at s ≡ s
    → value_reached steps at n ≡ step_value (step_values n (take at steps)) n s
reached-step steps at n s lt e =
    let len : length (take at steps) ≡ at = omega (arith, length-take at steps) in
    ap (λ (t : List Step). value_reached t at n) (cut_step steps at s lt e)
    ∙ reached-append (take at steps ++ (s ∷ [])) (drop (at + 1) steps) n at
    (omega (arith, length-append (take at steps) (s ∷ [])))
    ∙ ap (λ (k : ℕ). value_reached (take at steps ++ (s ∷ [])) k n) (sym len)
    ∙ reached-last (take at steps) s n

-- an earlier step
pub reached-earlier : (steps : List Step) (at k n : ℕ) → at < length steps → k < at
    → value_at (step_values n (take at steps)) k ≡ value_reached steps k n
reached-earlier steps at k n lt less =
    sym (ap (λ (t : List Step). value_reached t k n) (sym (take-append-drop at steps))
    ∙ reached-append (take at steps) (drop at steps) n k (omega (arith, length-take at steps)))

-- there is no step from here on
pub reached-none : (steps : List Step) (k n : ℕ) → length steps ≤ k → value_at (step_values n steps) k ≡ None
reached-none steps k n le = get_or_past (step_values n steps) k None (omega (arith, length-step_values steps n))

-- ---- conditions

pub IfFound-map : {E : Type 0} {P Q : ℕ → Type 0} (r : Result (Option ℕ) E) → ((i : ℕ) → P i → Q i)
    → IfOk r (λ found. IfSome found P) → IfOk r (λ found. IfSome found Q)
IfFound-map (Ok None) f h = tt
IfFound-map (Ok (Some i)) f h = f i h
IfFound-map (Err e) f h = tt

-- either side: the steps of the left side, after those of the right side
pub adds_either : (old mid new : List Step) (whole left right : Node) (here there rest i : ℕ)
    → ((n : ℕ) → node_value whole n ≡ either (node_value left n) (node_value right n)) → here < length old
    → AddsSteps old mid rest (chosen_step old right here there) → AddsSteps mid new i (chosen_step mid left here rest)
    → AddsSteps old new i (chosen_step old whole here there)
adds_either old mid new whole left right here there rest i is lt h k =
    AddsSteps-map old new i (chosen_step mid left here rest) (chosen_step old whole here there)
    (λ n.
    ap (λ (a : Option ℕ). choice (node_value left n) a (value_reached mid rest n))
    (AddsSteps-keeps old mid rest (chosen_step old right here there) here n h lt)
    ∙ ap (λ (b : Option ℕ). choice (node_value left n) (value_reached old here n) b) (h.reaches n)
    ∙ sym (choice-either (node_value left n) (node_value right n) (value_reached old here n)
    (value_reached old there n))
    ∙ ap (λ (v : Option ℕ). choice v (value_reached old here n) (value_reached old there n)) (sym (is n)))
    (AddsSteps-both old mid new rest i (chosen_step old right here there) (chosen_step mid left here rest) h k)

pub adds_both_sides : (old mid new : List Step) (whole left right : Node) (here there rest i : ℕ)
    → ((n : ℕ) → node_value whole n ≡ conjunction (node_value left n) (node_value right n)) → there < length old
    → AddsSteps old mid rest (chosen_step old right here there) → AddsSteps mid new i (chosen_step mid left rest there)
    → AddsSteps old new i (chosen_step old whole here there)
adds_both_sides old mid new whole left right here there rest i is lt h k =
    AddsSteps-map old new i (chosen_step mid left rest there) (chosen_step old whole here there)
    (λ n.
    ap (λ (b : Option ℕ). choice (node_value left n) (value_reached mid rest n) b)
    (AddsSteps-keeps old mid rest (chosen_step old right here there) there n h lt)
    ∙ ap (λ (a : Option ℕ). choice (node_value left n) a (value_reached old there n)) (h.reaches n)
    ∙ sym (choice-conjoined (node_value left n) (node_value right n) (value_reached old here n)
    (value_reached old there n))
    ∙ ap (λ (v : Option ℕ). choice v (value_reached old here n) (value_reached old there n)) (sym (is n)))
    (AddsSteps-both old mid new rest i (chosen_step old right here there) (chosen_step mid left rest there) h k)

-- a choice: the steps of its condition, after those of its sides
pub adds_choice : (old first second new : List Step) (whole condition chosen other : Node) (here there i : ℕ)
    → ((n : ℕ) → node_value whole n ≡ choice (node_value condition n) (node_value chosen n) (node_value other n))
    → AddsSteps old first here (node_value chosen) → AddsSteps first second there (node_value other)
    → AddsSteps second new i (chosen_step second condition here there) → AddsSteps old new i (node_value whole)
adds_choice old first second new whole condition chosen other here there i is h k l =
    AddsSteps-map old new i (chosen_step second condition here there) (node_value whole)
    (λ n.
    ap (λ (a : Option ℕ). choice (node_value condition n) a (value_reached second there n))
    (AddsSteps-keeps first second there (node_value other) here n k h.there ∙ h.reaches n)
    ∙ ap (λ (b : Option ℕ). choice (node_value condition n) (node_value chosen n) b) (k.reaches n)
    ∙ sym (is n))
    (AddsSteps-both old second new there i (node_value other) (chosen_step second condition here there)
    (AddsSteps-both old first second here there (node_value chosen) (node_value other) h k) l)

-- what `get` found
pub reached-past : (steps : List Step) (at n : ℕ) → false ≡ nat_lt at (length steps) → None ≡ value_reached steps at n
reached-past steps at n e = sym (reached-none steps at n (ltb-false at (length steps) (sym e)))

-- the sides of an operator, as its boxes hold them
pub sides_are : (f : Option ℕ → Option ℕ → Option ℕ) (left right boxed_left boxed_right : Node) (n : ℕ) → left
    ≡ boxed_left → right ≡ boxed_right → f (node_value boxed_left n) (node_value boxed_right n)
    ≡ f (node_value left n) (node_value right n)
sides_are f left right boxed_left boxed_right n e g = rw (e, g) refl
