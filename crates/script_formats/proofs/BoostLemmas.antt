-- What follows a part of a directive of Boost's is no longer than the text.
use Rattle.std.proofs.Common.{◌≡◌, ℕ, ◌≤◌, Bool, true, false, List, [], ◌∷◌, length, Option, None, Some, refl, ap}
use Rattle.std.proofs.Common.{arith, inl, inr, ◌==◌}
use Rattle.std.specs.Prelude.{◌&&◌, not}
use Rattle.std.specs.Char.{is_ascii_digit}
use Rattle.std.proofs.lemmas.Bool.{cases_Bool}
use Rattle.format_arguments.specs.Bytes.{run, behind}
use Rattle.numbered_arguments.specs.declared.Kind.{Kind}
use Rattle.numbered_arguments.specs.declared.Kind.TheVariants.{Object}
use Rattle.numbered_arguments.specs.declared.Request.{Request}
use Rattle.numbered_arguments.specs.NumberedArguments.{number_of}
use Rattle.script_formats.specs.declared.directive.Directive.{Directive}
use Rattle.script_formats.specs.declared.boost.Start.{Start}
use Rattle.script_formats.specs.declared.boost.Start.TheVariants.{Whole, Number}
use Rattle.script_formats.specs.ScriptParts.{argument, printing_directive, behind_percent}
use Rattle.script_formats.specs.AwkDirectives.{amount, precision}
use Rattle.script_formats.specs.BoostDirectives.{bar, behind_bar, is_first_digit, behind_digits, start, is_flag}
use Rattle.script_formats.specs.BoostDirectives.{is_size, asked_by, with_rest, behind_fill, conversion_behind}
use Rattle.script_formats.specs.BoostDirectives.{closed_by, with_bar, bar_or, conversion, made_of, behind_precision}
use Rattle.script_formats.specs.BoostDirectives.{behind_width, back, behind_start, with_start, directive_behind}
use Rattle.script_formats.specs.BoostDirectives.{unless_percent, directive}
use Rattle.script_formats.proofs.PartLemmas.{Within, some_is, behind_within, percent_within}
use Rattle.script_formats.proofs.AwkLemmas.{amount_within, precision_within}

abbrev Shrinks : List ℕ → Option (List ℕ) → Type 0
Shrinks text found = (rest : List ℕ) → found ≡ Some rest → length rest ≤ length text

list_is : (a b : List ℕ) (n : ℕ) → Some a ≡ Some b → length a ≤ n → length b ≤ n
list_is a b n e le =
    let same : a ≡ b = cc e in
    omega (arith, le, ap (λ (t : List ℕ). length t) same)

bar_within : (text : List ℕ) → Shrinks text (behind_bar text)
bar_within [] rest e = absurd (cc e)
bar_within (b ∷ more) rest e = elim (cases_Bool (b == bar)) [
  | inl is ↦ list_is more rest (length (b ∷ more)) (rw is at e) (omega arith)
  | inr other ↦ absurd (cc (rw other at e))
]

-- ---- the start

ended_within : (closed : Bool) (text : List ℕ) (number : ℕ) (rest : List ℕ) → length rest ≤ length text
    → Within Start text (behind_digits closed text number rest)
ended_within closed text number [] le p e = some_is Start (Number None, text) p (length text) e (omega arith)
ended_within closed text number (b ∷ more) le p e = elim (cases_Bool (b == 36)) [
  | inl dollar ↦ elim (cases_Bool (number == 0)) [
    | inl none ↦ absurd (cc (rw (dollar, none) at e))
    | inr some ↦ some_is Start (Number (Some number), more) p (length text) (rw (dollar, some) at e) (omega (arith, le))
  ]
  | inr f ↦ elim (cases_Bool (b == 37 && not closed)) [
    | inl percent ↦ elim (cases_Bool (number == 0)) [
      | inl none ↦ absurd (cc (rw (f, percent, none) at e))
      | inr some ↦ some_is Start (Whole number, more) p (length text) (rw (f, percent, some) at e) (omega (arith, le))
    ]
    | inr g ↦ some_is Start (Number None, text) p (length text) (rw (f, g) at e) (omega arith)
  ]
]

start_within : (closed : Bool) (text : List ℕ) → Within Start text (start closed text)
start_within closed [] p e = some_is Start (Number None, []) p 0 e (omega arith)
start_within closed (b ∷ more) p e = elim (cases_Bool (is_first_digit b)) [
  | inl digit ↦ ended_within closed (b ∷ more) (number_of (run is_ascii_digit (b ∷ more)))
      (behind is_ascii_digit (b ∷ more)) (behind_within is_ascii_digit (b ∷ more)) p (rw digit at e)
  | inr other ↦ some_is Start (Number None, b ∷ more) p (length (b ∷ more)) (rw other at e) (omega arith)
]

-- ---- the conversion

with_within : (rest : List ℕ) (kind : Option (Option Kind)) → Within (Option Kind) rest (with_rest rest kind)
with_within rest None p e = absurd (cc e)
with_within rest (Some kind) p e = some_is (Option Kind) (kind, rest) p (length rest) e (omega arith)

filled_within : (text : List ℕ) → Within (Option Kind) text (behind_fill text)
filled_within [] p e = absurd (cc e)
filled_within (b ∷ more) p e = some_is (Option Kind) (None, more) p (length (b ∷ more)) e (omega arith)

unbarred_within : (text : List ℕ) → Within (Option Kind) text (conversion_behind text)
unbarred_within [] p e = absurd (cc e)
unbarred_within (b ∷ more) p e = elim (cases_Bool (b == 84)) [
  | inl fill ↦ omega (arith, filled_within more p (rw fill at e))
  | inr other ↦ omega (arith, with_within more (asked_by b) p (rw other at e))
]

closed_by_within : (text : List ℕ) (kind : Option Kind) (found : Option (List ℕ)) → Shrinks text found
    → Within (Option Kind) text (closed_by kind found)
closed_by_within text kind None h p e = absurd (cc e)
closed_by_within text kind (Some rest) h p e = some_is (Option Kind) (kind, rest) p (length text) e (h rest refl)

closed_within : (text : List ℕ) (found : Option (Option Kind × List ℕ)) → Within (Option Kind) text found
    → Within (Option Kind) text (with_bar found)
closed_within text None h p e = absurd (cc e)
closed_within text (Some x) h p e =
    omega (arith, h x refl, closed_by_within x.1 x.0 (behind_bar x.1) (bar_within x.1) p e)

bar_or_within : (text : List ℕ) (found : Option (List ℕ)) → Shrinks text found
    → Within (Option Kind) text (bar_or text found)
bar_or_within text None h p e = closed_within text (conversion_behind text) (unbarred_within text) p e
bar_or_within text (Some rest) h p e = some_is (Option Kind) (Some Object, rest) p (length text) e (h rest refl)

conversion_within : (closed : Bool) (text : List ℕ) → Within (Option Kind) text (conversion closed text)
conversion_within true text p e = bar_or_within text (behind_bar text) (bar_within text) p e
conversion_within false text p e = unbarred_within text p e

-- ---- directives

made_within : (number : Option ℕ) (w p : Option Request) (text : List ℕ) (found : Option (Option Kind × List ℕ))
    → Within (Option Kind) text found → Within Directive text (made_of number w p found)
made_within number w p text None h q e = absurd (cc e)
made_within number w p text (Some x) h q e =
    some_is Directive (printing_directive w p (argument number x.0), x.1) q (length text) e (h x refl)

behind_precision_within : (closed : Bool) (number : Option ℕ) (w : Option Request) (text : List ℕ)
    (found : Option (Option Request × List ℕ)) → Within (Option Request) text found
    → Within Directive text (behind_precision closed number w found)
behind_precision_within closed number w text None h q e = absurd (cc e)
behind_precision_within closed number w text (Some x) h q e =
    let rest = behind is_size x.1 in
    omega (
      arith,
      h x refl,
      behind_within is_size x.1,
      made_within number w x.0 rest (conversion closed rest) (conversion_within closed rest) q e,
    )

behind_width_within : (closed : Bool) (number : Option ℕ) (text : List ℕ) (found : Option (Option Request × List ℕ))
    → Within (Option Request) text found → Within Directive text (behind_width closed number found)
behind_width_within closed number text None h q e = absurd (cc e)
behind_width_within closed number text (Some x) h q e = omega (
  arith,
  h x refl,
  behind_precision_within closed number x.0 x.1 (precision x.1) (precision_within x.1) q e,
)

back_within : (closed : Bool) (number : Option ℕ) (text : List ℕ) → Within Directive text (back closed number text)
back_within closed number text q e =
    let rest = behind is_flag text in
    omega (
      arith,
      behind_within is_flag text,
      behind_width_within closed number rest (amount rest) (amount_within rest) q e,
    )

continued_within : (closed : Bool) (which : Start) (text : List ℕ)
    → Within Directive text (behind_start closed which text)
continued_within closed (Whole number) text q e = some_is Directive
    (printing_directive None None (argument (Some number) (Some Object)), text) q (length text) e (omega arith)
continued_within closed (Number number) text q e = back_within closed number text q e

started_within : (closed : Bool) (text : List ℕ) (found : Option (Start × List ℕ)) → Within Start text found
    → Within Directive text (with_start closed found)
started_within closed text None h q e = absurd (cc e)
started_within closed text (Some x) h q e = omega (arith, h x refl, continued_within closed x.0 x.1 q e)

barred_within : (text : List ℕ) (found : Option (List ℕ)) → Shrinks text found
    → Within Directive text (directive_behind text found)
barred_within text None h q e = started_within false text (start false text) (start_within false text) q e
barred_within text (Some rest) h q e =
    omega (arith, h rest refl, started_within true rest (start true rest) (start_within true rest) q e)

asking_within : (text : List ℕ) (plain : Option (List ℕ)) → Shrinks text plain
    → Within Directive text (unless_percent text plain)
asking_within text None h q e = barred_within text (behind_bar text) (bar_within text) q e
asking_within text (Some rest) h q e =
    some_is Directive (printing_directive None None None, rest) q (length text) e (h rest refl)

pub directive_within : (text : List ℕ) → Within Directive text (directive text)
directive_within text = asking_within text (behind_percent text) (percent_within text)
