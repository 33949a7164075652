-- What follows a part of a directive of Object Pascal's is no longer than the text.
use Rattle.std.proofs.Common.{◌≡◌, ℕ, ◌≤◌, List, [], ◌∷◌, length, Option, None, Some, refl, ap, arith, inl, inr, ◌==◌}
use Rattle.std.specs.Prelude.{◌||◌}
use Rattle.std.specs.Char.{is_ascii_digit}
use Rattle.std.proofs.lemmas.Bool.{cases_Bool}
use Rattle.format_arguments.specs.Bytes.{run, behind, behind_one}
use Rattle.numbered_arguments.specs.declared.Kind.{Kind}
use Rattle.numbered_arguments.specs.declared.Request.{Request}
use Rattle.numbered_arguments.specs.NumberedArguments.{number_of}
use Rattle.script_formats.specs.declared.directive.Directive.{Directive}
use Rattle.script_formats.specs.declared.pascal.Index.{Index}
use Rattle.script_formats.specs.ScriptParts.{printing_directive, behind_percent, following_number, amount}
use Rattle.script_formats.specs.PascalDirectives.{behind_colon, behind_given, own_of, own_index, own_or_next, index_of}
use Rattle.script_formats.specs.PascalDirectives.{index, amount_there, precision, asked_by, directive_of, made_if}
use Rattle.script_formats.specs.PascalDirectives.{conversion_at, behind_precision, is_minus, back, unless_percent}
use Rattle.script_formats.specs.PascalDirectives.{directive}
use Rattle.script_formats.proofs.PartLemmas.{Within, some_is, behind_within, amount_within, percent_within}

abbrev Shrinks : List ℕ → Option (List ℕ) → Type 0
Shrinks text found = (rest : List ℕ) → found ≡ Some rest → length rest ≤ length text

list_is : (a b : List ℕ) (n : ℕ) → Some a ≡ Some b → length a ≤ n → length b ≤ n
list_is a b n e le =
    let same : a ≡ b = cc e in
    omega (arith, le, ap (λ (t : List ℕ). length t) same)

colon_within : (text : List ℕ) → Shrinks text (behind_colon text)
colon_within [] rest e = absurd (cc e)
colon_within (b ∷ more) rest e = elim (cases_Bool (b == 58)) [
  | inl is ↦ list_is more rest (length (b ∷ more)) (rw is at e) (omega arith)
  | inr other ↦ absurd (cc (rw other at e))
]

given_within : (text : List ℕ) → Shrinks text (behind_given text)
given_within [] rest e = absurd (cc e)
given_within (b ∷ more) rest e = elim (cases_Bool (b == 42)) [
  | inl is ↦ omega (arith, colon_within more rest (rw is at e))
  | inr other ↦ absurd (cc (rw other at e))
]

own_of_within : (number : ℕ) (text : List ℕ) (found : Option (List ℕ)) → Shrinks text found
    → Within ℕ text (own_of number found)
own_of_within number text None h p e = absurd (cc e)
own_of_within number text (Some rest) h p e =
    some_is ℕ (following_number number, rest) p (length text) e (h rest refl)

own_within : (text : List ℕ) → Within ℕ text (own_index text)
own_within text p e =
    let digits = behind is_ascii_digit text in
    omega (
      arith,
      behind_within is_ascii_digit text,
      own_of_within (number_of (run is_ascii_digit text)) digits (behind_colon digits) (colon_within digits) p e,
    )

own_or_next_within : (text : List ℕ) (found : Option (ℕ × List ℕ)) → Within ℕ text found
    → length (own_or_next text found).1 ≤ length text
own_or_next_within text None h = omega arith
own_or_next_within text (Some x) h = h x refl

index_of_within : (text : List ℕ) (given : Option (List ℕ)) → Shrinks text given
    → length (index_of text given).1 ≤ length text
index_of_within text None h = own_or_next_within text (own_index text) (own_within text)
index_of_within text (Some rest) h = h rest refl

index_within : (text : List ℕ) → length (index text).1 ≤ length text
index_within text = index_of_within text (behind_given text) (given_within text)

there_within : (text : List ℕ) → Within (Option Request) text (amount_there text)
there_within [] p e = absurd (cc e)
there_within (b ∷ more) p e = elim (cases_Bool (b == 42 || is_ascii_digit b)) [
  | inl is ↦ some_is (Option Request) (amount None (b ∷ more)) p (length (b ∷ more)) (rw is at e)
      (amount_within None (b ∷ more))
  | inr other ↦ absurd (cc (rw other at e))
]

precision_within : (text : List ℕ) → Within (Option Request) text (precision text)
precision_within [] p e = some_is (Option Request) (None, []) p 0 e (omega arith)
precision_within (b ∷ more) p e = elim (cases_Bool (b == 46)) [
  | inl is ↦ omega (arith, there_within more p (rw is at e))
  | inr other ↦ some_is (Option Request) (None, b ∷ more) p (length (b ∷ more)) (rw other at e) (omega arith)
]

minus_within : (text : List ℕ) → length (behind_one is_minus text) ≤ length text
minus_within [] = omega arith
minus_within (b ∷ more) = elim (cases_Bool (is_minus b)) [
  | inl e ↦ rw e (omega arith)
  | inr e ↦ rw e (omega arith)
]

made_within : (which : Index) (w p : Option Request) (rest : List ℕ) (kind : Option Kind)
    → Within Directive rest (made_if which w p rest kind)
made_within which w p rest None q e = absurd (cc e)
made_within which w p rest (Some kind) q e =
    some_is Directive (directive_of which w p kind, rest) q (length rest) e (omega arith)

converted_within : (which : Index) (w p : Option Request) (text : List ℕ)
    → Within Directive text (conversion_at which w p text)
converted_within which w p [] q e = absurd (cc e)
converted_within which w p (b ∷ more) q e = omega (arith, made_within which w p more (asked_by b) q e)

behind_precision_within : (which : Index) (w : Option Request) (text : List ℕ)
    (found : Option (Option Request × List ℕ)) → Within (Option Request) text found
    → Within Directive text (behind_precision which w found)
behind_precision_within which w text None h q e = absurd (cc e)
behind_precision_within which w text (Some x) h q e =
    omega (arith, h x refl, converted_within which w x.0 x.1 q e)

back_within : (which : Index) (text : List ℕ) → Within Directive text (back which text)
back_within which text q e =
    let narrow = behind_one is_minus text in
    let wide = amount None narrow in
    omega (
      arith,
      minus_within text,
      amount_within None narrow,
      behind_precision_within which wide.0 wide.1 (precision wide.1) (precision_within wide.1) q e,
    )

asking_within : (text : List ℕ) (plain : Option (List ℕ)) → Shrinks text plain
    → Within Directive text (unless_percent text plain)
asking_within text None h q e = omega (arith, index_within text, back_within (index text).0 (index text).1 q e)
asking_within text (Some rest) h q e =
    some_is Directive (printing_directive None None None, rest) q (length text) e (h rest refl)

pub directive_within : (text : List ℕ) → Within Directive text (directive text)
directive_within text = asking_within text (behind_percent text) (percent_within text)
