-- What follows a part of a directive of awk's is no longer than the text.
use Rattle.std.proofs.Common.{ℕ, List, [], ◌∷◌, length, Option, None, Some, refl, arith, inl, inr, ◌==◌}
use Rattle.std.specs.Char.{is_ascii_digit}
use Rattle.std.proofs.lemmas.Bool.{cases_Bool}
use Rattle.format_arguments.specs.Bytes.{behind}
use Rattle.numbered_arguments.specs.declared.Kind.{Kind}
use Rattle.numbered_arguments.specs.declared.Kind.TheVariants.{Integer}
use Rattle.numbered_arguments.specs.declared.Size.TheVariants.{Plain}
use Rattle.numbered_arguments.specs.declared.Request.{Request}
use Rattle.script_formats.specs.declared.directive.Directive.{Directive}
use Rattle.script_formats.specs.ScriptParts.{argument, printing_directive, index_at, is_flag}
use Rattle.script_formats.specs.AwkDirectives.{star_of, amount, precision, asked_by, made_if, conversion_at}
use Rattle.script_formats.specs.AwkDirectives.{behind_precision, behind_width, with_number, directive}
use Rattle.script_formats.proofs.PartLemmas.{Within, some_is, behind_within, index_within}

star_of_within : (text : List ℕ) (found : Option (Option ℕ × List ℕ)) → Within (Option ℕ) text found
    → Within (Option Request) text (star_of found)
star_of_within text None h p e = absurd (cc e)
star_of_within text (Some x) h p e = some_is (Option Request) (argument x.0 (Some (Integer Plain)), x.1) p
    (length text) e (h x refl)

pub amount_within : (text : List ℕ) → Within (Option Request) text (amount text)
amount_within [] p e = some_is (Option Request) (None, []) p 0 e (omega arith)
amount_within (b ∷ more) p e = elim (cases_Bool (b == 42)) [
  | inl is ↦ omega (arith, star_of_within more (index_at more) (index_within more) p (rw is at e))
  | inr other ↦ some_is (Option Request) (None, behind is_ascii_digit (b ∷ more)) p (length (b ∷ more))
      (rw other at e) (behind_within is_ascii_digit (b ∷ more))
]

pub precision_within : (text : List ℕ) → Within (Option Request) text (precision text)
precision_within [] p e = some_is (Option Request) (None, []) p 0 e (omega arith)
precision_within (b ∷ more) p e = elim (cases_Bool (b == 46)) [
  | inl is ↦ omega (arith, amount_within more p (rw is at e))
  | inr other ↦ some_is (Option Request) (None, b ∷ more) p (length (b ∷ more)) (rw other at e) (omega arith)
]

made_within : (number : Option ℕ) (w p : Option Request) (rest : List ℕ) (kind : Option (Option Kind))
    → Within Directive rest (made_if number w p rest kind)
made_within number w p rest None q e = absurd (cc e)
made_within number w p rest (Some kind) q e =
    some_is Directive (printing_directive w p (argument number kind), rest) q (length rest) e (omega arith)

converted_within : (number : Option ℕ) (w p : Option Request) (text : List ℕ)
    → Within Directive text (conversion_at number w p text)
converted_within number w p [] q e = absurd (cc e)
converted_within number w p (b ∷ more) q e = omega (arith, made_within number w p more (asked_by b) q e)

behind_precision_within : (number : Option ℕ) (w : Option Request) (text : List ℕ)
    (found : Option (Option Request × List ℕ)) → Within (Option Request) text found
    → Within Directive text (behind_precision number w found)
behind_precision_within number w text None h q e = absurd (cc e)
behind_precision_within number w text (Some x) h q e =
    omega (arith, h x refl, converted_within number w x.0 x.1 q e)

behind_width_within : (number : Option ℕ) (text : List ℕ) (found : Option (Option Request × List ℕ))
    → Within (Option Request) text found → Within Directive text (behind_width number found)
behind_width_within number text None h q e = absurd (cc e)
behind_width_within number text (Some x) h q e = omega (
  arith,
  h x refl,
  behind_precision_within number x.0 x.1 (precision x.1) (precision_within x.1) q e,
)

placed_within : (text : List ℕ) (found : Option (Option ℕ × List ℕ)) → Within (Option ℕ) text found
    → Within Directive text (with_number found)
placed_within text None h q e = absurd (cc e)
placed_within text (Some x) h q e =
    let flags = behind is_flag x.1 in
    omega (
      arith,
      h x refl,
      behind_within is_flag x.1,
      behind_width_within x.0 flags (amount flags) (amount_within flags) q e,
    )

pub directive_within : (text : List ℕ) → Within Directive text (directive text)
directive_within text = placed_within text (index_at text) (index_within text)
