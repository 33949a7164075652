-- What follows a part of a directive of Perl's is no longer than the text.
use Rattle.std.proofs.Common.{ℕ, ◌≤◌, List, [], ◌∷◌, length, Option, None, Some, refl, arith, inl, inr, ◌==◌}
use Rattle.std.specs.Prelude.{codes}
use Rattle.std.specs.List.{list_any}
use Rattle.std.specs.Char.{is_ascii_digit}
use Rattle.std.proofs.lemmas.Bool.{cases_Bool}
use Rattle.format_arguments.specs.Bytes.{behind}
use Rattle.numbered_arguments.specs.declared.Kind.{Kind}
use Rattle.numbered_arguments.specs.declared.Kind.TheVariants.{Vector, Integer}
use Rattle.numbered_arguments.specs.declared.Size.{Size}
use Rattle.numbered_arguments.specs.declared.Size.TheVariants.{Plain}
use Rattle.numbered_arguments.specs.declared.Request.{Request}
use Rattle.script_formats.specs.declared.directive.Directive.{Directive}
use Rattle.script_formats.specs.declared.perl.Front.{Front}
use Rattle.script_formats.specs.ScriptParts.{argument, is_flag}
use Rattle.script_formats.specs.PerlDirectives.{star_mark, dot, zero_digit, letter_v, is_first_digit}
use Rattle.script_formats.specs.PerlDirectives.{number_with_dollar, index_from, index_at, separator, joined_by}
use Rattle.script_formats.specs.PerlDirectives.{behind_star, vector, star, amount_of, amount, width, precision}
use Rattle.script_formats.specs.PerlDirectives.{behind_long, size, asked_by, front_of, front, directive_of, made_if}
use Rattle.script_formats.specs.PerlDirectives.{behind_size, back, directive}
use Rattle.script_formats.proofs.PartLemmas.{Within, some_is, behind_within, number_within}

written_within : (text : List ℕ) → Within ℕ text (number_with_dollar text)
written_within [] p e = absurd (cc e)
written_within (b ∷ more) p e = elim (cases_Bool (is_first_digit b)) [
  | inl digit ↦ number_within (b ∷ more) p (rw digit at e)
  | inr other ↦ absurd (cc (rw other at e))
]

place_of_within : (text : List ℕ) (found : Option (ℕ × List ℕ)) → Within ℕ text found
    → length (index_from text found).1 ≤ length text
place_of_within text None h = omega arith
place_of_within text (Some x) h = h x refl

index_within : (text : List ℕ) → length (index_at text).1 ≤ length text
index_within text = place_of_within text (number_with_dollar text) (written_within text)

separator_within : (number : Option ℕ) (text : List ℕ) → Within (Option Request) text (separator number text)
separator_within number [] p e = absurd (cc e)
separator_within number (b ∷ more) p e = elim (cases_Bool (b == letter_v)) [
  | inl is ↦ some_is (Option Request) (argument number (Some Vector), more) p (length (b ∷ more)) (rw is at e)
      (omega arith)
  | inr other ↦ absurd (cc (rw other at e))
]

joined_by_within : (text : List ℕ) (found : Option (ℕ × List ℕ)) → Within ℕ text found
    → Within (Option Request) text (joined_by text found)
joined_by_within text None h p e = separator_within None text p e
joined_by_within text (Some x) h p e = omega (arith, h x refl, separator_within (Some x.0) x.1 p e)

joined_within : (text : List ℕ) → Within (Option Request) text (behind_star text)
joined_within text = joined_by_within text (number_with_dollar text) (written_within text)

vector_within : (text : List ℕ) → Within (Option Request) text (vector text)
vector_within [] p e = absurd (cc e)
vector_within (b ∷ more) p e = elim (cases_Bool (b == letter_v)) [
  | inl is ↦ some_is (Option Request) (None, more) p (length (b ∷ more)) (rw is at e) (omega arith)
  | inr other ↦ elim (cases_Bool (b == star_mark)) [
    | inl is ↦ omega (arith, joined_within more p (rw (other, is) at e))
    | inr none ↦ absurd (cc (rw (other, none) at e))
  ]
]

star_within : (text : List ℕ) → Within (Option Request) text (star text)
star_within [] p e = absurd (cc e)
star_within (b ∷ more) p e = elim (cases_Bool (b == star_mark)) [
  | inl is ↦ some_is (Option Request) (argument (index_at more).0 (Some (Integer Plain)), (index_at more).1) p
      (length (b ∷ more)) (rw is at e) (omega (arith, index_within more))
  | inr other ↦ absurd (cc (rw other at e))
]

amount_of_within : (text : List ℕ) (found : Option (Option Request × List ℕ)) → Within (Option Request) text found
    → length (amount_of text found).1 ≤ length text
amount_of_within text None h = behind_within is_ascii_digit text
amount_of_within text (Some x) h = h x refl

amount_within : (text : List ℕ) → length (amount text).1 ≤ length text
amount_within text = amount_of_within text (star text) (star_within text)

width_within : (text : List ℕ) → length (width text).1 ≤ length text
width_within [] = amount_within []
width_within (b ∷ more) = elim (cases_Bool (b == zero_digit)) [
  | inl e ↦ rw e (omega arith)
  | inr e ↦ rw e (amount_within (b ∷ more))
]

precision_within : (text : List ℕ) → length (precision text).1 ≤ length text
precision_within [] = omega arith
precision_within (b ∷ more) = elim (cases_Bool (b == dot)) [
  | inl e ↦ rw e (omega (arith, amount_within more))
  | inr e ↦ rw e (omega arith)
]

long_within : (text : List ℕ) → length (behind_long text).1 ≤ length text
long_within [] = omega arith
long_within (b ∷ more) = elim (cases_Bool (b == 108)) [
  | inl e ↦ rw e (omega arith)
  | inr e ↦ rw e (omega arith)
]

size_within : (text : List ℕ) → length (size text).1 ≤ length text
size_within [] = omega arith
size_within (b ∷ more) = elim (cases_Bool (b == 104)) [
  | inl short ↦ rw short (omega arith)
  | inr e ↦ elim (cases_Bool (b == 108)) [
    | inl l ↦ rw (e, l) (omega (arith, long_within more))
    | inr f ↦ elim (cases_Bool (list_any (λ letter. b == letter) (codes "Lq"))) [
      | inl longest ↦ rw (e, f, longest) (omega arith)
      | inr g ↦ elim (cases_Bool (b == 86)) [
        | inl native ↦ rw (e, f, g, native) (omega arith)
        | inr h ↦ rw (e, f, g, h) (omega arith)
      ]
    ]
  ]
]

made_within : (before : Front) (w p : Option Request) (rest : List ℕ) (kind : Option (Option Kind))
    → Within Directive rest (made_if before w p rest kind)
made_within before w p rest None q e = absurd (cc e)
made_within before w p rest (Some kind) q e =
    some_is Directive (directive_of before w p kind, rest) q (length rest) e (omega arith)

converted_within : (before : Front) (w p : Option Request) (s : Size) (text : List ℕ)
    → Within Directive text (behind_size before w p s text)
converted_within before w p s [] q e = absurd (cc e)
converted_within before w p s (b ∷ more) q e = omega (arith, made_within before w p more (asked_by b s) q e)

back_within : (before : Front) (text : List ℕ) → Within Directive text (back before text)
back_within before text q e = omega (
  arith,
  width_within text,
  precision_within (width text).1,
  size_within (precision (width text).1).1,
  converted_within before (width text).0 (precision (width text).1).0 (size (precision (width text).1).1).0
      (size (precision (width text).1).1).1 q e,
)

front_of_within : (number : Option ℕ) (text : List ℕ) (found : Option (Option Request × List ℕ))
    → Within (Option Request) text found → length (front_of number text found).1 ≤ length text
front_of_within number text None h = omega arith
front_of_within number text (Some x) h = h x refl

front_within : (text : List ℕ) → length (front text).1 ≤ length text
front_within text = omega (
  arith,
  index_within text,
  behind_within is_flag (index_at text).1,
  front_of_within (index_at text).0 (behind is_flag (index_at text).1) (vector (behind is_flag (index_at text).1))
      (vector_within (behind is_flag (index_at text).1)),
)

pub directive_within : (text : List ℕ) → Within Directive text (directive text)
directive_within text q e = omega (arith, front_within text, back_within (front text).0 (front text).1 q e)
