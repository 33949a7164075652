-- A text begins with at most one directive, which is longer than nothing.
use Rattle.std.proofs.Common.{◌≡◌, ℕ, ◌==◌, List, [], ◌∷◌, length, Option, None, Some, refl, sym, ap, ◌∙◌, arith}
use Rattle.std.proofs.Common.{inl, inr}
use Rattle.std.specs.Prelude.{MatchOption, option_map}
use Rattle.std.proofs.lemmas.Bool.{cases_Bool}
use Rattle.format_arguments.specs.Text.{AreDirectives}
use Rattle.numbered_arguments.specs.declared.Request.{Request}
use Rattle.script_formats.specs.ScriptParts.{index_at}
use Rattle.script_formats.proofs.PartLemmas.{Within, some_is, index_within}
use Rattle.gfc_internal_format.specs.declared.operands.Operand.{Operand}
use Rattle.gfc_internal_format.specs.GfcDirectives.{percent, operand_of, long_operand_of, request, request_if, behind_l}
use Rattle.gfc_internal_format.specs.GfcDirectives.{behind_number, from_index, directive, DirectiveAt}

-- ---- what follows a part is no longer than the text

request_within : (number : Option ℕ) (rest : List ℕ) (operand : Option Operand)
    → Within (Option Request) rest (request_if number rest operand)
request_within number rest None q e = absurd (cc e)
request_within number rest (Some operand) q e =
    some_is (Option Request) (Some (request number operand), rest) q (length rest) e (omega arith)

l_within : (number : Option ℕ) (text : List ℕ) → Within (Option Request) text (behind_l number text)
l_within number [] q e = absurd (cc e)
l_within number (b ∷ more) q e = omega (arith, request_within number more (long_operand_of b) q e)

conversion_within : (number : Option ℕ) (text : List ℕ) → Within (Option Request) text (behind_number number text)
conversion_within number [] q e = absurd (cc e)
conversion_within number (b ∷ more) q e = elim (cases_Bool (b == 108)) [
  | inl long ↦ omega (arith, l_within number more q (rw long at e))
  | inr other ↦ omega (arith, request_within number more (operand_of b) q (rw other at e))
]

from_index_within : (text : List ℕ) (found : Option (Option ℕ × List ℕ)) → Within (Option ℕ) text found
    → Within (Option Request) text (from_index found)
from_index_within text None h q e = absurd (cc e)
from_index_within text (Some x) h q e = omega (arith, h x refl, conversion_within x.0 x.1 q e)

within : (text : List ℕ) → Within (Option Request) text (directive text)
within [] q e = absurd (cc e)
within (b ∷ more) q e = elim (cases_Bool (b == 37)) [
  | inl is ↦ some_is (Option Request) (None, more) q (length (b ∷ more)) (rw is at e) (omega arith)
  | inr other ↦
      from_index_within (b ∷ more) (index_at (b ∷ more)) (index_within (b ∷ more)) q (rw other at e)
]

-- ---- directives

directive_one : (d e : Option Request) (text rest more : List ℕ) → DirectiveAt d text rest → DirectiveAt e text more
    → (d ≡ e) × (rest ≡ more)
directive_one d e text rest more (a, f, g) (b, h, i) =
    let same : a ≡ b = cc (f, h) in
    let found : Some (d, rest) ≡ Some (e, more) = sym g ∙ ap directive same ∙ i in
    let whole : (d, rest) ≡ (e, more) = cc found in
    (ap (λ (p : Option Request × List ℕ). p.0) whole, ap (λ (p : Option Request × List ℕ). p.1) whole)

pub are_directives : AreDirectives percent DirectiveAt
are_directives = record {
  begins = λ d text rest (a, f, g). (a, f);
  one = directive_one;
  shorter = λ d text rest (a, f, g). omega (arith, ap length f, within a (d, rest) g);
}

no_directive : (text : List ℕ) → None ≡ directive text → (d : Option Request) (rest : List ℕ)
    → DirectiveAt d (percent ∷ text) rest → ⊥
no_directive text none d rest (a, f, g) =
    let same : text ≡ a = cc f in
    absurd (cc (g, none, ap directive same))

-- what a reader finds is a directive, and where it finds none there is none
pub read_is : {X : Type 0} (text : List ℕ) (view : X → Option Request × List ℕ) (found : Option X)
    → option_map view found ≡ directive text
    → MatchOption found ((d : Option Request) (rest : List ℕ) → ¬ DirectiveAt d (percent ∷ text) rest)
    (λ x. DirectiveAt (view x).0 (percent ∷ text) (view x).1)
read_is text view None e = no_directive text e
read_is text view (Some x) e = (text, refl, sym e)
