-- What follows a part of a directive of Tcl's is no longer than the text.
use Rattle.std.proofs.Common.{◌≡◌, ℕ, ◌≤◌, List, [], ◌∷◌, length, Option, None, Some, refl, arith, inl, inr, ◌==◌}
use Rattle.std.proofs.lemmas.Bool.{cases_Bool}
use Rattle.format_arguments.specs.Bytes.{behind}
use Rattle.numbered_arguments.specs.declared.Kind.{Kind}
use Rattle.numbered_arguments.specs.declared.Size.{Size}
use Rattle.numbered_arguments.specs.declared.Request.{Request}
use Rattle.script_formats.specs.declared.directive.Directive.{Directive}
use Rattle.script_formats.specs.ScriptParts.{argument, printing_directive, behind_percent, index_at, is_flag, amount}
use Rattle.script_formats.specs.TclDirectives.{next_place, precision, size, asked_by, made_if, behind_size}
use Rattle.script_formats.specs.TclDirectives.{behind_amounts, behind_width, behind_flags, with_number, unless_percent}
use Rattle.script_formats.specs.TclDirectives.{directive}
use Rattle.script_formats.proofs.PartLemmas.{Within, some_is, behind_within, index_within, amount_within}
use Rattle.script_formats.proofs.PartLemmas.{percent_within}

precision_within : (number : Option ℕ) (text : List ℕ) → length (precision number text).1 ≤ length text
precision_within number [] = omega arith
precision_within number (b ∷ more) = elim (cases_Bool (b == 46)) [
  | inl e ↦ rw e (omega (arith, amount_within number more))
  | inr e ↦ rw e (omega arith)
]

size_within : (text : List ℕ) → length (size text).1 ≤ length text
size_within [] = omega arith
size_within (b ∷ more) = elim (cases_Bool (b == 104)) [
  | inl short ↦ rw short (omega arith)
  | inr e ↦ elim (cases_Bool (b == 108)) [
    | inl long ↦ rw (e, long) (omega arith)
    | inr f ↦ rw (e, f) (omega arith)
  ]
]

made_within : (number : Option ℕ) (w p : Option Request) (rest : List ℕ) (kind : Option Kind)
    → Within Directive rest (made_if number w p rest kind)
made_within number w p rest None q e = absurd (cc e)
made_within number w p rest (Some kind) q e =
    some_is Directive (printing_directive w p (argument number (Some kind)), rest) q (length rest) e (omega arith)

converted_within : (number : Option ℕ) (w p : Option Request) (s : Size) (text : List ℕ)
    → Within Directive text (behind_size number w p s text)
converted_within number w p s [] q e = absurd (cc e)
converted_within number w p s (b ∷ more) q e = omega (arith, made_within number w p more (asked_by b s) q e)

amounts_within : (number : Option ℕ) (w p : Option Request) (text : List ℕ)
    → Within Directive text (behind_amounts number w p text)
amounts_within number w p text q e =
    omega (arith, size_within text, converted_within number w p (size text).0 (size text).1 q e)

width_within : (number : Option ℕ) (w : Option Request) (text : List ℕ)
    → Within Directive text (behind_width number w text)
width_within number w text q e = omega (
  arith,
  precision_within number text,
  amounts_within (next_place number (precision number text).0) w (precision number text).0 (precision number text).1
      q e,
)

flags_within : (number : Option ℕ) (text : List ℕ) → Within Directive text (behind_flags number text)
flags_within number text q e = omega (
  arith,
  amount_within number text,
  width_within (next_place number (amount number text).0) (amount number text).0 (amount number text).1 q e,
)

placed_within : (text : List ℕ) (found : Option (Option ℕ × List ℕ)) → Within (Option ℕ) text found
    → Within Directive text (with_number found)
placed_within text None h q e = absurd (cc e)
placed_within text (Some x) h q e =
    omega (arith, h x refl, behind_within is_flag x.1, flags_within x.0 (behind is_flag x.1) q e)

asking_within : (text : List ℕ) (plain : Option (List ℕ))
    → ((rest : List ℕ) → plain ≡ Some rest → length rest ≤ length text)
    → Within Directive text (unless_percent text plain)
asking_within text None h q e = placed_within text (index_at text) (index_within text) q e
asking_within text (Some rest) h q e =
    some_is Directive (printing_directive None None None, rest) q (length text) e (h rest refl)

pub directive_within : (text : List ℕ) → Within Directive text (directive text)
directive_within text = asking_within text (behind_percent text) (percent_within text)
