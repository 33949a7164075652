-- A text begins with at most one directive, and what follows it is shorter.
use Rattle.std.proofs.Common.{◌≡◌, ℕ, ◌≤◌, ◌<◌, Bool, true, false, List, [], ◌∷◌, length, Option, None, Some, refl}
use Rattle.std.proofs.Common.{sym, ap, ◌∙◌, arith, inl, inr, ◌==◌}
use Rattle.std.specs.Prelude.{MatchOption, option_map, codes}
use Rattle.std.specs.List.{prefix_len}
use Rattle.std.specs.Char.{is_ascii_digit}
use Rattle.std.proofs.lemmas.Bool.{cases_Bool}
use Rattle.std.proofs.lemmas.List.{length-drop}
use Rattle.format_arguments.specs.Bytes.{run, behind}
use Rattle.format_arguments.specs.Text.{AreDirectives}
use Rattle.numbered_arguments.specs.NumberedArguments.{number_of}
use Rattle.java_printf_format.specs.declared.conversions.Conversion.{Conversion}
use Rattle.java_printf_format.specs.declared.conversions.Conversion.TheVariants.{Date}
use Rattle.java_printf_format.specs.declared.directive.Which.{Which}
use Rattle.java_printf_format.specs.declared.directive.Which.TheVariants.{Own}
use Rattle.java_printf_format.specs.declared.directive.Directive.{Directive}
use Rattle.java_printf_format.specs.PrintfConversions.{is_one_of, conversion_of, is_suffix, with_rest, date_at}
use Rattle.java_printf_format.specs.PrintfConversions.{conversion_at, kind_of, accepts}
use Rattle.java_printf_format.specs.PrintfDirectives.{percent, dollar, less, dot, which_relative, which_explicit}
use Rattle.java_printf_format.specs.PrintfDirectives.{which_by, which, is_flag, has_digits, precision, directive_from}
use Rattle.java_printf_format.specs.PrintfDirectives.{behind_precision, behind_width, back, back_of, directive}
use Rattle.java_printf_format.specs.PrintfDirectives.{DirectiveAt}

-- what follows is no longer than the text
abbrev Within : (A : Type 0) → List ℕ → Option (A × List ℕ) → Type 0
Within A text found = (p : A × List ℕ) → found ≡ Some p → length p.1 ≤ length text

some_is : (A : Type 0) (p q : A × List ℕ) (n : ℕ) → Some p ≡ Some q → length p.1 ≤ n → length q.1 ≤ n
some_is A p q n e le =
    let same : p ≡ q = cc e in
    omega (arith, le, ap (λ (x : A × List ℕ). length x.1) same)

behind_within : (test : ℕ → Bool) (text : List ℕ) → length (behind test text) ≤ length text
behind_within test text = omega (arith, length-drop (prefix_len test text) text)

-- ---- conversions

rest_within : (rest : List ℕ) (conversion : Option Conversion) → Within Conversion rest (with_rest rest conversion)
rest_within rest None p e = absurd (cc e)
rest_within rest (Some conversion) p e = some_is Conversion (conversion, rest) p (length rest) e (omega arith)

date_within : (text : List ℕ) → Within Conversion text (date_at text)
date_within [] p e = absurd (cc e)
date_within (b ∷ more) p e = elim (cases_Bool (is_suffix b)) [
  | inl is ↦ some_is Conversion (Date, more) p (length (b ∷ more)) (rw is at e) (omega arith)
  | inr other ↦ absurd (cc (rw other at e))
]

conversion_within : (text : List ℕ) → Within Conversion text (conversion_at text)
conversion_within [] p e = absurd (cc e)
conversion_within (b ∷ more) p e = elim (cases_Bool (is_one_of (codes "tT") b)) [
  | inl is ↦ omega (arith, date_within more p (rw is at e))
  | inr other ↦ omega (arith, rest_within more (conversion_of b) p (rw other at e))
]

-- ---- which argument

relative_within : (text : List ℕ) → length (which_relative text).1 ≤ length text
relative_within [] = omega arith
relative_within (b ∷ more) = elim (cases_Bool (b == less)) [
  | inl e ↦ rw e (omega arith)
  | inr e ↦ rw e (omega arith)
]

explicit_within : (number : ℕ) (rest : List ℕ) → Within Which rest (which_explicit number rest)
explicit_within number rest p e = elim (cases_Bool (number == 0)) [
  | inl none ↦ absurd (cc (rw none at e))
  | inr other ↦ some_is Which (Own number, rest) p (length rest) (rw other at e) (omega arith)
]

which_by_within : (text : List ℕ) (number : ℕ) (rest : List ℕ) → length rest ≤ length text
    → Within Which text (which_by text number rest)
which_by_within text number [] le p e = some_is Which (which_relative text) p (length text) e (relative_within text)
which_by_within text number (b ∷ more) le p e = elim (cases_Bool (b == dollar)) [
  | inl is ↦ omega (arith, le, explicit_within number more p (rw is at e))
  | inr other ↦ some_is Which (which_relative text) p (length text) (rw other at e) (relative_within text)
]

which_within : (text : List ℕ) → Within Which text (which text)
which_within text = which_by_within text (number_of (run is_ascii_digit text)) (behind is_ascii_digit text)
    (behind_within is_ascii_digit text)

-- ---- directives

precision_within : (text : List ℕ) → Within Bool text (precision text)
precision_within [] p e = some_is Bool (false, []) p 0 e (omega arith)
precision_within (b ∷ more) p e = elim (cases_Bool (b == dot)) [
  | inl is ↦ elim (cases_Bool (has_digits more)) [
    | inl any ↦ some_is Bool (true, behind is_ascii_digit more) p (length (b ∷ more)) (rw (is, any) at e)
        (omega (arith, behind_within is_ascii_digit more))
    | inr none ↦ absurd (cc (rw (is, none) at e))
  ]
  | inr other ↦ some_is Bool (false, b ∷ more) p (length (b ∷ more)) (rw other at e) (omega arith)
]

made_within : (at : Which) (flags : List ℕ) (w p : Bool) (text : List ℕ) (found : Option (Conversion × List ℕ))
    → Within Conversion text found → Within Directive text (directive_from at flags w p found)
made_within at flags w p text None h q e = absurd (cc e)
made_within at flags w p text (Some x) h q e = elim (cases_Bool (accepts x.0 flags w p)) [
  | inl is ↦ some_is Directive (record { which = at; kind = kind_of x.0 }, x.1) q (length text) (rw is at e)
      (h x refl)
  | inr other ↦ absurd (cc (rw other at e))
]

converted_within : (at : Which) (flags : List ℕ) (w : Bool) (text : List ℕ) (found : Option (Bool × List ℕ))
    → Within Bool text found → Within Directive text (behind_precision at flags w found)
converted_within at flags w text None h q e = absurd (cc e)
converted_within at flags w text (Some x) h q e = omega (
  arith,
  h x refl,
  made_within at flags w x.0 x.1 (conversion_at x.1) (conversion_within x.1) q e,
)

widened_within : (at : Which) (flags text : List ℕ) → Within Directive text (behind_width at flags text)
widened_within at flags text q e =
    let wide = behind is_ascii_digit text in
    omega (
      arith,
      behind_within is_ascii_digit text,
      converted_within at flags (has_digits text) wide (precision wide) (precision_within wide) q e,
    )

back_within : (at : Which) (text : List ℕ) → Within Directive text (back at text)
back_within at text q e = omega (
  arith,
  behind_within is_flag text,
  widened_within at (run is_flag text) (behind is_flag text) q e,
)

back_of_within : (text : List ℕ) (found : Option (Which × List ℕ)) → Within Which text found
    → Within Directive text (back_of found)
back_of_within text None h q e = absurd (cc e)
back_of_within text (Some x) h q e = omega (arith, h x refl, back_within x.0 x.1 q e)

directive_within : (text : List ℕ) → Within Directive text (directive text)
directive_within text = back_of_within text (which text) (which_within text)

-- ---- what holds of the directives of each language

directive_one : (d e : Directive) (text rest more : List ℕ) → DirectiveAt d text rest → DirectiveAt e text more
    → (d ≡ e) × (rest ≡ more)
directive_one d e text rest more (a, f, g) (b, h, i) =
    let same : a ≡ b = cc (f, h) in
    let found : Some (d, rest) ≡ Some (e, more) = sym g ∙ ap directive same ∙ i in
    let whole : (d, rest) ≡ (e, more) = cc found in
    (ap (λ (p : Directive × List ℕ). p.0) whole, ap (λ (p : Directive × List ℕ). p.1) whole)

directive_shorter : (d : Directive) (text rest : List ℕ) → DirectiveAt d text rest → length rest < length text
directive_shorter d text rest (a, f, g) = omega (arith, ap length f, directive_within a (d, rest) g)

directive_begins : (d : Directive) (text rest : List ℕ) → DirectiveAt d text rest
    → (behind : List ℕ) × (text ≡ percent ∷ behind)
directive_begins d text rest (a, f, g) = (a, f)

pub are_directives : AreDirectives percent DirectiveAt
are_directives = record {
  begins = directive_begins;
  one = directive_one;
  shorter = directive_shorter;
}

no_directive : (text : List ℕ) → None ≡ directive text → (d : Directive) (rest : List ℕ)
    → DirectiveAt d (percent ∷ text) rest → ⊥
no_directive text none d rest (a, f, g) =
    let same : text ≡ a = cc f in
    absurd (cc (g, none, ap directive same))

-- what the reader finds is a directive, and where it finds none there is none
pub read_is : {X : Type 0} (text : List ℕ) (view : X → Directive × List ℕ) (found : Option X)
    → option_map view found ≡ directive text
    → MatchOption found ((d : Directive) (rest : List ℕ) → ¬ DirectiveAt d (percent ∷ text) rest)
    (λ x. DirectiveAt (view x).0 (percent ∷ text) (view x).1)
read_is text view None e = no_directive text e
read_is text view (Some x) e = (text, refl, sym e)
