-- A text begins with at most one list of parameters.
use Rattle.std.proofs.Common.{◌≡◌, ℕ, ◌≤◌, ◌<◌, Bool, List, [], ◌∷◌, ◌++◌, length, Option, None, Some, refl, sym, ap}
use Rattle.std.proofs.Common.{subst, ◌∙◌, arith, inl, inr, append_assoc}
use Rattle.std.specs.List.{prefix_len}
use Rattle.std.specs.Char.{is_ascii_digit}
use Rattle.std.proofs.lemmas.Bool.{cases_Bool}
use Rattle.std.proofs.lemmas.List.{length-drop}
use Rattle.format_arguments.specs.Bytes.{behind, BeginsNot}
use Rattle.lisp_formats.specs.declared.parameters.Parameter.{Parameter}
use Rattle.lisp_formats.specs.declared.parameters.Parameter.TheVariants.{Absent, Number, Character, Variable}
use Rattle.lisp_formats.specs.LispParameters.{comma, is_sign, is_quote, is_variable, is_hash, behind_sign, behind_quote}
use Rattle.lisp_formats.specs.LispParameters.{parameter, AreParameters}

-- ---- what follows a part is no longer than the text

abbrev pub Within : (A : Type 0) → List ℕ → Option (A × List ℕ) → Type 0
Within A text found = (p : A × List ℕ) → found ≡ Some p → length p.1 ≤ length text

pub some_is : (A : Type 0) (p q : A × List ℕ) (n : ℕ) → Some p ≡ Some q → length p.1 ≤ n → length q.1 ≤ n
some_is A p q n e le =
    let same : p ≡ q = cc e in
    omega (arith, le, ap (λ (x : A × List ℕ). length x.1) same)

pub behind_within : (test : ℕ → Bool) (text : List ℕ) → length (behind test text) ≤ length text
behind_within test text = omega (arith, length-drop (prefix_len test text) text)

signed_within : (text : List ℕ) → Within Parameter text (behind_sign text)
signed_within [] p e = absurd (cc e)
signed_within (b ∷ more) p e = elim (cases_Bool (is_ascii_digit b)) [
  | inl is ↦ some_is Parameter (Number, behind is_ascii_digit more) p (length (b ∷ more)) (rw is at e)
      (omega (arith, behind_within is_ascii_digit more))
  | inr other ↦ absurd (cc (rw other at e))
]

quoted_within : (text : List ℕ) → Within Parameter text (behind_quote text)
quoted_within [] p e = absurd (cc e)
quoted_within (b ∷ more) p e = some_is Parameter (Character, more) p (length (b ∷ more)) e (omega arith)

pub parameter_within : (text : List ℕ) → Within Parameter text (parameter text)
parameter_within [] p e = some_is Parameter (Absent, []) p 0 e (omega arith)
parameter_within (b ∷ more) p e = elim (cases_Bool (is_ascii_digit b)) [
  | inl is ↦ some_is Parameter (Number, behind is_ascii_digit more) p (length (b ∷ more)) (rw is at e)
      (omega (arith, behind_within is_ascii_digit more))
  | inr no_digit ↦ elim (cases_Bool (is_sign b)) [
    | inl is ↦ omega (arith, signed_within more p (rw (no_digit, is) at e))
    | inr no_sign ↦ elim (cases_Bool (is_quote b)) [
      | inl is ↦ omega (arith, quoted_within more p (rw (no_digit, no_sign, is) at e))
      | inr no_quote ↦ elim (cases_Bool (is_variable b)) [
        | inl is ↦ some_is Parameter (Variable, more) p (length (b ∷ more))
            (rw (no_digit, no_sign, no_quote, is) at e) (omega arith)
        | inr none ↦ elim (cases_Bool (is_hash b)) [
          | inl is ↦ some_is Parameter (Number, more) p (length (b ∷ more))
              (rw (no_digit, no_sign, no_quote, none, is) at e) (omega arith)
          | inr other ↦ some_is Parameter (Absent, b ∷ more) p (length (b ∷ more))
              (rw (no_digit, no_sign, no_quote, none, other) at e) (omega arith)
        ]
      ]
    ]
  ]
]

-- a parameter and a comma are longer than nothing
pub step_smaller : (rest after more : List ℕ) (p : Parameter) → parameter rest ≡ Some (p, after)
    → after ≡ comma ∷ more → length more < length rest
step_smaller rest after more p e f = omega (arith, parameter_within rest (p, after) e, ap length f)

pub parameters_within : (ps : List Parameter) (text rest : List ℕ) → AreParameters ps text rest
    → length rest ≤ length text
parameters_within [] text rest x = absurd x
parameters_within (p ∷ []) text rest (e, f) = parameter_within text (p, rest) e
parameters_within (p ∷ q ∷ more) text rest (after, e, x) =
    omega (arith, parameter_within text (p, comma ∷ after) e, parameters_within (q ∷ more) after rest x)

-- ---- one way to read

found_parameter : (x y : Parameter × List ℕ) → Some x ≡ Some y → x.0 ≡ y.0
found_parameter x y e =
    let whole : x ≡ y = cc e in
    ap (λ (z : Parameter × List ℕ). z.0) whole

found_rest : (x y : Parameter × List ℕ) → Some x ≡ Some y → x.1 ≡ y.1
found_rest x y e =
    let whole : x ≡ y = cc e in
    ap (λ (z : Parameter × List ℕ). z.1) whole

pub one_parameters : (ps qs : List Parameter) (text r s : List ℕ) → AreParameters ps text r → AreParameters qs text s
    → (ps ≡ qs) × (r ≡ s)
one_parameters [] qs text r s x y = absurd x
one_parameters (p ∷ []) [] text r s x y = absurd y
one_parameters (p ∷ q ∷ ps) [] text r s x y = absurd y
one_parameters (p ∷ []) (q ∷ []) text r s (e, f) (g, h) = (
  ap (λ (x : Parameter). x ∷ []) (found_parameter (p, r) (q, s) (sym e ∙ g)),
  found_rest (p, r) (q, s) (sym e ∙ g),
)
one_parameters (p ∷ []) (q ∷ next ∷ qs) text r s (e, f) (after, g, y) =
    absurd (f after (found_rest (p, r) (q, comma ∷ after) (sym e ∙ g)))
one_parameters (p ∷ next ∷ ps) (q ∷ []) text r s (after, e, x) (g, h) =
    absurd (h after (found_rest (q, s) (p, comma ∷ after) (sym g ∙ e)))
one_parameters (p ∷ first ∷ ps) (q ∷ second ∷ qs) text r s (a, e, x) (b, g, y) =
    let rest_is : a ≡ b = cc (found_rest (p, comma ∷ a) (q, comma ∷ b) (sym e ∙ g)) in
    let ih = one_parameters (first ∷ ps) (second ∷ qs) a r s x
    (subst (λ (t : List ℕ). AreParameters (second ∷ qs) t s) (sym rest_is) y) in (
      ap (λ (x : Parameter). x ∷ first ∷ ps) (found_parameter (p, comma ∷ a) (q, comma ∷ b) (sym e ∙ g))
          ∙ ap (λ (more : List Parameter). q ∷ more) ih.0,
      ih.1,
    )

-- ---- reading one by one

-- up to rest these parameters were read, and a comma behind each
pub record HasReadParameters (text rest : List ℕ) (ps : List Parameter) : Type 0 where
  pub on : (more : List Parameter) (end : List ℕ) → AreParameters more rest end → AreParameters (ps ++ more) text end
  pub back : (all : List Parameter) (end : List ℕ) → AreParameters all text end
      → (more : List Parameter) × (all ≡ ps ++ more) × AreParameters more rest end

pub read_none : (text : List ℕ) → HasReadParameters text text []
read_none text = record {
  on = λ more end x. x;
  back = λ all end x. (all, refl, x);
}

first_of : (p : Parameter) (ps : List Parameter) (rest more end : List ℕ) → parameter rest ≡ Some (p, comma ∷ more)
    → AreParameters ps more end → AreParameters (p ∷ ps) rest end
first_of p [] rest more end e x = absurd x
first_of p (q ∷ qs) rest more end e x = (more, e, x)

behind_first : (p : Parameter) (all : List Parameter) (rest more end : List ℕ)
    → parameter rest ≡ Some (p, comma ∷ more) → AreParameters all rest end
    → (ps : List Parameter) × (all ≡ p ∷ ps) × AreParameters ps more end
behind_first p [] rest more end e x = absurd x
behind_first p (q ∷ []) rest more end e (f, none) =
    absurd (none more (found_rest (q, end) (p, comma ∷ more) (sym f ∙ e)))
behind_first p (q ∷ next ∷ qs) rest more end e (after, f, x) =
    let rest_is : after ≡ more = cc (found_rest (q, comma ∷ after) (p, comma ∷ more) (sym f ∙ e)) in (
      next ∷ qs,
      ap (λ (x : Parameter). x ∷ next ∷ qs) (found_parameter (q, comma ∷ after) (p, comma ∷ more) (sym f ∙ e)),
      subst (λ (t : List ℕ). AreParameters (next ∷ qs) t end) rest_is x,
    )

pub reads_parameter : (text rest after more : List ℕ) (p : Parameter) (old new : List Parameter)
    → HasReadParameters text rest old → parameter rest ≡ Some (p, after) → after ≡ comma ∷ more
    → new ≡ old ++ p ∷ [] → HasReadParameters text more new
reads_parameter text rest after more p old new so_far e f g = record {
  on = λ ps end x. on ps end x;
  back = λ all end x. back all end x;
}
  where
    here : parameter rest ≡ Some (p, comma ∷ more)
    here = e ∙ ap (λ (t : List ℕ). Some (p, t)) f

    whole : (ps : List Parameter) → old ++ p ∷ ps ≡ new ++ ps
    whole ps = sym (append_assoc old (p ∷ []) ps) ∙ ap (λ (xs : List Parameter). xs ++ ps) (sym g)

    on : (ps : List Parameter) (end : List ℕ) → AreParameters ps more end → AreParameters (new ++ ps) text end
    on ps end x = subst (λ (xs : List Parameter). AreParameters xs text end) (whole ps)
        (so_far.on (p ∷ ps) end (first_of p ps rest more end here x))

    back : (all : List Parameter) (end : List ℕ) → AreParameters all text end
        → (ps : List Parameter) × (all ≡ new ++ ps) × AreParameters ps more end
    back all end x =
        let y = so_far.back all end x in
        let z = behind_first p y.0 rest more end here y.2 in
        (z.0, y.1 ∙ ap (λ (xs : List Parameter). old ++ xs) z.1 ∙ whole z.0, z.2)

pub last_parameter : (text rest after : List ℕ) (p : Parameter) (old new : List Parameter)
    → HasReadParameters text rest old → parameter rest ≡ Some (p, after) → BeginsNot comma after
    → new ≡ old ++ p ∷ [] → AreParameters new text after
last_parameter text rest after p old new so_far e none f =
    subst (λ (xs : List Parameter). AreParameters xs text after) (sym f) (so_far.on (p ∷ []) after (e, none))

nothing_read : (all : List Parameter) (rest end : List ℕ) → None ≡ parameter rest → AreParameters all rest end → ⊥
nothing_read [] rest end none x = absurd x
nothing_read (p ∷ []) rest end none (e, f) = absurd (cc (none, e))
nothing_read (p ∷ q ∷ more) rest end none (after, e, x) = absurd (cc (none, e))

pub no_parameter : (text rest : List ℕ) (old : List Parameter) → HasReadParameters text rest old
    → None ≡ parameter rest → (all : List Parameter) (end : List ℕ) → AreParameters all text end → ⊥
no_parameter text rest old so_far none all end x =
    let y = so_far.back all end x in
    nothing_read y.0 rest end none y.2
