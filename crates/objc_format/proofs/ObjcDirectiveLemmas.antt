-- A text begins with at most one directive, which is longer than nothing; behind one that is not read is nothing.
use Rattle.std.proofs.Common.{◌≡◌, ℕ, ◌==◌, true, false, List, [], ◌∷◌, length, Option, None, Some, refl, sym, ap, ◌∙◌}
use Rattle.std.proofs.Common.{inl, inr, arith}
use Rattle.std.specs.Prelude.{MatchOption, option_map}
use Rattle.std.specs.Char.{is_ascii_digit}
use Rattle.std.proofs.lemmas.Bool.{cases_Bool}
use Rattle.c_signature.specs.declared.Size.{Size}
use Rattle.format_arguments.specs.Bytes.{run, behind}
use Rattle.format_arguments.specs.Text.{AreDirectives}
use Rattle.numbered_arguments.specs.declared.Kind.{Kind}
use Rattle.numbered_arguments.specs.declared.Kind.TheVariants.{Integer}
use Rattle.numbered_arguments.specs.declared.Size.TheVariants.{Plain}
use Rattle.numbered_arguments.specs.declared.Request.{Request}
use Rattle.script_formats.specs.ScriptParts.{index_at}
use Rattle.script_formats.proofs.PartLemmas.{Within, some_is, behind_within, index_within}
use Rattle.objc_format.specs.declared.kinds.Taken.{Taken}
use Rattle.objc_format.specs.declared.directive.Directive.{Directive}
use Rattle.objc_format.specs.ObjcKinds.{stand_in}
use Rattle.objc_format.specs.ObjcConversions.{is_size, size_of, taken_by, takes_nothing}
use Rattle.objc_format.specs.ObjcDirectives.{percent, request, directive_asking, unread_directive, with_star, amount}
use Rattle.objc_format.specs.ObjcDirectives.{precision, directive_with, directive_from, behind_size, behind_precision}
use Rattle.objc_format.specs.ObjcDirectives.{with_precision, with_width, is_flag, behind_flags, with_number, directive}
use Rattle.objc_format.specs.ObjcDirectives.{DirectiveAt}

-- ---- what follows a part is no longer than the text

starred_within : (text : List ℕ) (found : Option (Option ℕ × List ℕ)) → Within (Option ℕ) text found
    → Within (Option Request) text (with_star found)
starred_within text None h q e = absurd (cc e)
starred_within text (Some x) h q e =
    some_is (Option Request) (Some (request x.0 (Integer Plain)), x.1) q (length text) e (h x refl)

amount_within : (text : List ℕ) → Within (Option Request) text (amount text)
amount_within [] q e = some_is (Option Request) (None, []) q 0 e (omega arith)
amount_within (b ∷ more) q e = elim (cases_Bool (b == 42)) [
  | inl star ↦ omega (arith, starred_within more (index_at more) (index_within more) q (rw star at e))
  | inr none ↦ some_is (Option Request) (None, behind is_ascii_digit (b ∷ more)) q (length (b ∷ more)) (rw none at e)
      (behind_within is_ascii_digit (b ∷ more))
]

precision_within : (text : List ℕ) → Within (Option Request) text (precision text)
precision_within [] q e = some_is (Option Request) (None, []) q 0 e (omega arith)
precision_within (b ∷ more) q e = elim (cases_Bool (b == 46)) [
  | inl dot ↦ omega (arith, amount_within more q (rw dot at e))
  | inr none ↦ some_is (Option Request) (None, b ∷ more) q (length (b ∷ more)) (rw none at e) (omega arith)
]

standing_within : (number : Option ℕ) (w p : Option Request) (rest : List ℕ) (kind : Option Kind)
    → Within Directive rest (Some (directive_with number w p rest kind))
standing_within number w p rest None q e = some_is Directive unread_directive q (length rest) e (omega arith)
standing_within number w p rest (Some kind) q e =
    some_is Directive (directive_asking w p (Some (request number kind)), rest) q (length rest) e (omega arith)

made_within : (number : Option ℕ) (w p : Option Request) (rest : List ℕ) (taken : Option Taken)
    → Within Directive rest (directive_from number w p rest taken)
made_within number w p rest None q e = absurd (cc e)
made_within number w p rest (Some taken) q e = standing_within number w p rest (stand_in taken) q e

converted_within : (number : Option ℕ) (w p : Option Request) (given : Size) (text : List ℕ)
    → Within Directive text (behind_size number w p given text)
converted_within number w p given [] q e = absurd (cc e)
converted_within number w p given (b ∷ more) q e = elim (cases_Bool (takes_nothing b)) [
  | inl is ↦ some_is Directive (directive_asking w p None, more) q (length (b ∷ more)) (rw is at e) (omega arith)
  | inr other ↦ omega (arith, made_within number w p more (taken_by b given) q (rw other at e))
]

sized_within : (number : Option ℕ) (w p : Option Request) (text : List ℕ)
    → Within Directive text (behind_precision number w p text)
sized_within number w p [] q e = absurd (cc e)
sized_within number w p (b ∷ more) q e = elim (cases_Bool (b == 60)) [
  | inl is ↦ some_is Directive unread_directive q (length (b ∷ more)) (rw is at e) (omega arith)
  | inr other ↦ omega (
    arith,
    behind_within is_size (b ∷ more),
    converted_within number w p (size_of (run is_size (b ∷ more))) (behind is_size (b ∷ more)) q (rw other at e),
  )
]

precise_within : (number : Option ℕ) (w : Option Request) (text : List ℕ) (found : Option (Option Request × List ℕ))
    → Within (Option Request) text found → Within Directive text (with_precision number w found)
precise_within number w text None h q e = absurd (cc e)
precise_within number w text (Some x) h q e = omega (arith, h x refl, sized_within number w x.0 x.1 q e)

wide_within : (number : Option ℕ) (text : List ℕ) (found : Option (Option Request × List ℕ))
    → Within (Option Request) text found → Within Directive text (with_width number found)
wide_within number text None h q e = absurd (cc e)
wide_within number text (Some x) h q e =
    omega (arith, h x refl, precise_within number x.0 x.1 (precision x.1) (precision_within x.1) q e)

flagged_within : (number : Option ℕ) (text : List ℕ) → Within Directive text (behind_flags number text)
flagged_within number [] q e = absurd (cc e)
flagged_within number (b ∷ more) q e = elim (cases_Bool (b == 73)) [
  | inl is ↦ some_is Directive unread_directive q (length (b ∷ more)) (rw is at e) (omega arith)
  | inr other ↦ wide_within number (b ∷ more) (amount (b ∷ more)) (amount_within (b ∷ more)) q (rw other at e)
]

placed_within : (text : List ℕ) (found : Option (Option ℕ × List ℕ)) → Within (Option ℕ) text found
    → Within Directive text (with_number found)
placed_within text None h q e = absurd (cc e)
placed_within text (Some x) h q e =
    omega (arith, h x refl, behind_within is_flag x.1, flagged_within x.0 (behind is_flag x.1) q e)

within : (text : List ℕ) → Within Directive text (directive text)
within text q e = placed_within text (index_at text) (index_within text) q e

-- ---- nothing follows a directive that is not read

abbrev Ends : Option (Directive × List ℕ) → Type 0
Ends found = (q : Directive × List ℕ) → found ≡ Some q → q.0.is_read ≡ false → q.1 ≡ []

asking_ends : (w p a : Option Request) (rest : List ℕ) → Ends (Some (directive_asking w p a, rest))
asking_ends w p a rest q e unread_is =
    let same : q ≡ (directive_asking w p a, rest) = cc (sym e) in
    let read : q.0.is_read ≡ true = ap (λ (x : Directive × List ℕ). x.0.is_read) same in
    absurd (cc (read, unread_is))

unread_ends : Ends (Some unread_directive)
unread_ends q e unread_is =
    let same : q ≡ unread_directive = cc (sym e) in
    ap (λ (x : Directive × List ℕ). x.1) same

standing_ends : (number : Option ℕ) (w p : Option Request) (rest : List ℕ) (kind : Option Kind)
    → Ends (Some (directive_with number w p rest kind))
standing_ends number w p rest None q e u = unread_ends q e u
standing_ends number w p rest (Some kind) q e u = asking_ends w p (Some (request number kind)) rest q e u

made_ends : (number : Option ℕ) (w p : Option Request) (rest : List ℕ) (taken : Option Taken)
    → Ends (directive_from number w p rest taken)
made_ends number w p rest None q e u = absurd (cc e)
made_ends number w p rest (Some taken) q e u = standing_ends number w p rest (stand_in taken) q e u

converted_ends : (number : Option ℕ) (w p : Option Request) (given : Size) (text : List ℕ)
    → Ends (behind_size number w p given text)
converted_ends number w p given [] q e u = absurd (cc e)
converted_ends number w p given (b ∷ more) q e u = elim (cases_Bool (takes_nothing b)) [
  | inl is ↦ asking_ends w p None more q (rw is at e) u
  | inr other ↦ made_ends number w p more (taken_by b given) q (rw other at e) u
]

sized_ends : (number : Option ℕ) (w p : Option Request) (text : List ℕ) → Ends (behind_precision number w p text)
sized_ends number w p [] q e u = absurd (cc e)
sized_ends number w p (b ∷ more) q e u = elim (cases_Bool (b == 60)) [
  | inl is ↦ unread_ends q (rw is at e) u
  | inr other ↦ converted_ends number w p (size_of (run is_size (b ∷ more))) (behind is_size (b ∷ more)) q
      (rw other at e) u
]

precise_ends : (number : Option ℕ) (w : Option Request) (found : Option (Option Request × List ℕ))
    → Ends (with_precision number w found)
precise_ends number w None q e u = absurd (cc e)
precise_ends number w (Some x) q e u = sized_ends number w x.0 x.1 q e u

wide_ends : (number : Option ℕ) (found : Option (Option Request × List ℕ)) → Ends (with_width number found)
wide_ends number None q e u = absurd (cc e)
wide_ends number (Some x) q e u = precise_ends number x.0 (precision x.1) q e u

flagged_ends : (number : Option ℕ) (text : List ℕ) → Ends (behind_flags number text)
flagged_ends number [] q e u = absurd (cc e)
flagged_ends number (b ∷ more) q e u = elim (cases_Bool (b == 73)) [
  | inl is ↦ unread_ends q (rw is at e) u
  | inr other ↦ wide_ends number (amount (b ∷ more)) q (rw other at e) u
]

placed_ends : (found : Option (Option ℕ × List ℕ)) → Ends (with_number found)
placed_ends None q e u = absurd (cc e)
placed_ends (Some x) q e u = flagged_ends x.0 (behind is_flag x.1) q e u

pub unread_is_last : (d : Directive) (text rest : List ℕ) → DirectiveAt d text rest → d.is_read ≡ false → rest ≡ []
unread_is_last d text rest (inner, f, g) u = placed_ends (index_at inner) (d, rest) g u

-- ---- directives

directive_one : (d e : Directive) (text rest more : List ℕ) → DirectiveAt d text rest → DirectiveAt e text more
    → (d ≡ e) × (rest ≡ more)
directive_one d e text rest more (a, f, g) (b, h, i) =
    let same : a ≡ b = cc (f, h) in
    let found : Some (d, rest) ≡ Some (e, more) = sym g ∙ ap directive same ∙ i in
    let whole : (d, rest) ≡ (e, more) = cc found in
    (ap (λ (p : Directive × List ℕ). p.0) whole, ap (λ (p : Directive × List ℕ). p.1) whole)

pub are_directives : AreDirectives percent DirectiveAt
are_directives = record {
  begins = λ d text rest (a, f, g). (a, f);
  one = directive_one;
  shorter = λ d text rest (a, f, g). omega (arith, ap length f, within a (d, rest) g);
}

no_directive : (text : List ℕ) → None ≡ directive text → (d : Directive) (rest : List ℕ)
    → DirectiveAt d (percent ∷ text) rest → ⊥
no_directive text none d rest (a, f, g) =
    let same : text ≡ a = cc f in
    absurd (cc (g, none, ap directive same))

-- what a reader finds is a directive, and where it finds none there is none
pub read_is : {X : Type 0} (text : List ℕ) (view : X → Directive × List ℕ) (found : Option X)
    → option_map view found ≡ directive text
    → MatchOption found ((d : Directive) (rest : List ℕ) → ¬ DirectiveAt d (percent ∷ text) rest)
    (λ x. DirectiveAt (view x).0 (percent ∷ text) (view x).1)
read_is text view None e = no_directive text e
read_is text view (Some x) e = (text, refl, sym e)
