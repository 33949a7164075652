-- A text begins with at most one directive, which is longer than nothing.
use Rattle.std.proofs.Common.{◌≡◌, ℕ, Bool, ◌==◌, List, [], ◌∷◌, length, Option, None, Some, refl, sym, ap, ◌∙◌, arith}
use Rattle.std.proofs.Common.{inl, inr}
use Rattle.std.specs.Prelude.{MatchOption, option_map}
use Rattle.std.specs.Char.{is_ascii_digit}
use Rattle.std.proofs.lemmas.Bool.{cases_Bool}
use Rattle.format_arguments.specs.Bytes.{run, behind}
use Rattle.format_arguments.specs.Text.{AreDirectives}
use Rattle.numbered_arguments.specs.declared.Kind.{Kind}
use Rattle.numbered_arguments.specs.declared.Kind.TheVariants.{Integer, Text}
use Rattle.numbered_arguments.specs.declared.Size.{Size}
use Rattle.numbered_arguments.specs.declared.Size.TheVariants.{Plain}
use Rattle.numbered_arguments.specs.declared.Request.{Request}
use Rattle.script_formats.specs.ScriptParts.{index_at}
use Rattle.script_formats.proofs.PartLemmas.{Within, some_is, behind_within, index_within}
use Rattle.gcc_internal_format.specs.declared.directive.Directive.{Directive}
use Rattle.gcc_internal_format.specs.GccDirectives.{percent, request, directive_asking, error_number, is_flag}
use Rattle.gcc_internal_format.specs.GccDirectives.{are_allowed, size, asked_by, made_if, text_at, precedes, with_star}
use Rattle.gcc_internal_format.specs.GccDirectives.{with_precision, back, with_flags, with_number, is_mark, directive}
use Rattle.gcc_internal_format.specs.GccDirectives.{DirectiveAt}

-- ---- what follows a part is no longer than the text

made_within : (number : Option ℕ) (rest : List ℕ) (kind : Option Kind)
    → Within Directive rest (made_if number rest kind)
made_within number rest None q e = absurd (cc e)
made_within number rest (Some kind) q e =
    some_is Directive (directive_asking None (Some (request number kind)), rest) q (length rest) e (omega arith)

text_within : (number : Option ℕ) (precision : Option Request) (text : List ℕ)
    → Within Directive text (text_at number precision text)
text_within number precision [] q e = absurd (cc e)
text_within number precision (b ∷ more) q e = elim (cases_Bool (b == 115)) [
  | inl is ↦ some_is Directive (directive_asking precision (Some (request number Text)), more) q (length (b ∷ more))
      (rw is at e) (omega arith)
  | inr other ↦ absurd (cc (rw other at e))
]

starred_within : (number : Option ℕ) (text : List ℕ) (found : Option (Option ℕ × List ℕ))
    → Within (Option ℕ) text found → Within Directive text (with_star number found)
starred_within number text None h q e = absurd (cc e)
starred_within number text (Some x) h q e = elim (cases_Bool (precedes x.0 number)) [
  | inl is ↦ omega (
    arith,
    h x refl,
    text_within number (Some (request x.0 (Integer Plain))) x.1 q (rw is at e),
  )
  | inr other ↦ absurd (cc (rw other at e))
]

precise_within : (number : Option ℕ) (text : List ℕ) → Within Directive text (with_precision number text)
precise_within number [] q e = absurd (cc e)
precise_within number (b ∷ more) q e = elim (cases_Bool (b == 42)) [
  | inl star ↦ omega (arith, starred_within number more (index_at more) (index_within more) q (rw star at e))
  | inr none ↦ elim (cases_Bool (is_ascii_digit b)) [
    | inl digit ↦ omega (
      arith,
      behind_within is_ascii_digit more,
      text_within number None (behind is_ascii_digit more) q (rw (none, digit) at e),
    )
    | inr other ↦ absurd (cc (rw (none, other) at e))
  ]
]

back_within : (number : Option ℕ) (s : Size) (text : List ℕ) → Within Directive text (back number s text)
back_within number s [] q e = absurd (cc e)
back_within number s (b ∷ more) q e = elim (cases_Bool (b == 46)) [
  | inl dot ↦ omega (arith, precise_within number more q (rw dot at e))
  | inr other ↦ omega (arith, made_within number more (asked_by b s) q (rw other at e))
]

flagged_within : (number : Option ℕ) (flags text : List ℕ) → Within Directive text (with_flags number flags text)
flagged_within number flags text q e = elim (cases_Bool (are_allowed flags)) [
  | inl are ↦ back_within number (size flags) text q (rw are at e)
  | inr other ↦ absurd (cc (rw other at e))
]

placed_within : (text : List ℕ) (found : Option (Option ℕ × List ℕ)) → Within (Option ℕ) text found
    → Within Directive text (with_number found)
placed_within text None h q e = absurd (cc e)
placed_within text (Some x) h q e = omega (
  arith,
  h x refl,
  behind_within is_flag x.1,
  flagged_within x.0 (run is_flag x.1) (behind is_flag x.1) q e,
)

within : (text : List ℕ) → Within Directive text (directive text)
within [] q e = absurd (cc e)
within (b ∷ more) q e = elim (cases_Bool (is_mark b)) [
  | inl mark ↦ some_is Directive (directive_asking None None, more) q (length (b ∷ more)) (rw mark at e) (omega arith)
  | inr none ↦ elim (cases_Bool (b == 109)) [
    | inl error ↦ some_is Directive (directive_asking None (Some error_number), more) q (length (b ∷ more))
        (rw (none, error) at e) (omega arith)
    | inr other ↦
        placed_within (b ∷ more) (index_at (b ∷ more)) (index_within (b ∷ more)) q (rw (none, other) at e)
  ]
]

-- ---- directives

directive_one : (d e : Directive) (text rest more : List ℕ) → DirectiveAt d text rest → DirectiveAt e text more
    → (d ≡ e) × (rest ≡ more)
directive_one d e text rest more (a, f, g) (b, h, i) =
    let same : a ≡ b = cc (f, h) in
    let found : Some (d, rest) ≡ Some (e, more) = sym g ∙ ap directive same ∙ i in
    let whole : (d, rest) ≡ (e, more) = cc found in
    (ap (λ (p : Directive × List ℕ). p.0) whole, ap (λ (p : Directive × List ℕ). p.1) whole)

pub are_directives : AreDirectives percent DirectiveAt
are_directives = record {
  begins = λ d text rest (a, f, g). (a, f);
  one = directive_one;
  shorter = λ d text rest (a, f, g). omega (arith, ap length f, within a (d, rest) g);
}

no_directive : (text : List ℕ) → None ≡ directive text → (d : Directive) (rest : List ℕ)
    → DirectiveAt d (percent ∷ text) rest → ⊥
no_directive text none d rest (a, f, g) =
    let same : text ≡ a = cc f in
    absurd (cc (g, none, ap directive same))

-- what a reader finds is a directive, and where it finds none there is none
pub read_is : {X : Type 0} (text : List ℕ) (view : X → Directive × List ℕ) (found : Option X)
    → option_map view found ≡ directive text
    → MatchOption found ((d : Directive) (rest : List ℕ) → ¬ DirectiveAt d (percent ∷ text) rest)
    (λ x. DirectiveAt (view x).0 (percent ∷ text) (view x).1)
read_is text view None e = no_directive text e
read_is text view (Some x) e = (text, refl, sym e)
