-- A text begins with at most one directive, which is longer than nothing.
use Rattle.std.proofs.Common.{◌≡◌, ℕ, List, [], ◌∷◌, length, Option, None, Some, refl, sym, ap, ◌∙◌, arith}
use Rattle.std.specs.Prelude.{MatchOption, option_map}
use Rattle.std.specs.Char.{is_ascii_digit}
use Rattle.format_arguments.specs.Bytes.{behind}
use Rattle.format_arguments.specs.Text.{AreDirectives}
use Rattle.numbered_arguments.specs.declared.Kind.{Kind}
use Rattle.script_formats.specs.ScriptParts.{index_at, behind_precision}
use Rattle.script_formats.proofs.PartLemmas.{Within, some_is, behind_within, index_within, precision_within}
use Rattle.librep_format.specs.declared.parts.Directive.{Directive}
use Rattle.librep_format.specs.LibrepDirectives.{percent, is_flag, asked_by, made_if, behind_number, back, back_of}
use Rattle.librep_format.specs.LibrepDirectives.{directive, DirectiveAt}

-- ---- what follows a part is no longer than the text

made_within : (number : Option ℕ) (rest : List ℕ) (kind : Option (Option Kind))
    → Within Directive rest (made_if number rest kind)
made_within number rest None q e = absurd (cc e)
made_within number rest (Some kind) q e =
    some_is Directive (record { number = number; kind = kind }, rest) q (length rest) e (omega arith)

converted_within : (number : Option ℕ) (text : List ℕ) → Within Directive text (behind_number number text)
converted_within number [] q e = absurd (cc e)
converted_within number (b ∷ more) q e = omega (arith, made_within number more (asked_by b) q e)

back_within : (number : Option ℕ) (text : List ℕ) → Within Directive text (back number text)
back_within number text q e =
    let flags = behind is_flag text in
    let wide = behind is_ascii_digit flags in
    omega (
      arith,
      behind_within is_flag text,
      behind_within is_ascii_digit flags,
      precision_within wide,
      converted_within number (behind_precision wide) q e,
    )

back_of_within : (text : List ℕ) (found : Option (Option ℕ × List ℕ)) → Within (Option ℕ) text found
    → Within Directive text (back_of found)
back_of_within text None h q e = absurd (cc e)
back_of_within text (Some x) h q e = omega (arith, h x refl, back_within x.0 x.1 q e)

within : (text : List ℕ) → Within Directive text (directive text)
within text = back_of_within text (index_at text) (index_within text)

-- ---- directives

directive_one : (d e : Directive) (text rest more : List ℕ) → DirectiveAt d text rest → DirectiveAt e text more
    → (d ≡ e) × (rest ≡ more)
directive_one d e text rest more (a, f, g) (b, h, i) =
    let same : a ≡ b = cc (f, h) in
    let found : Some (d, rest) ≡ Some (e, more) = sym g ∙ ap directive same ∙ i in
    let whole : (d, rest) ≡ (e, more) = cc found in
    (ap (λ (p : Directive × List ℕ). p.0) whole, ap (λ (p : Directive × List ℕ). p.1) whole)

pub are_directives : AreDirectives percent DirectiveAt
are_directives = record {
  begins = λ d text rest (a, f, g). (a, f);
  one = directive_one;
  shorter = λ d text rest (a, f, g). omega (arith, ap length f, within a (d, rest) g);
}

no_directive : (text : List ℕ) → None ≡ directive text → (d : Directive) (rest : List ℕ)
    → DirectiveAt d (percent ∷ text) rest → ⊥
no_directive text none d rest (a, f, g) =
    let same : text ≡ a = cc f in
    absurd (cc (g, none, ap directive same))

-- what a reader finds is a directive, and where it finds none there is none
pub read_is : {X : Type 0} (text : List ℕ) (view : X → Directive × List ℕ) (found : Option X)
    → option_map view found ≡ directive text
    → MatchOption found ((d : Directive) (rest : List ℕ) → ¬ DirectiveAt d (percent ∷ text) rest)
    (λ x. DirectiveAt (view x).0 (percent ∷ text) (view x).1)
read_is text view None e = no_directive text e
read_is text view (Some x) e = (text, refl, sym e)
