-- A text begins with at most one directive.
use Rattle.std.proofs.Common.{◌≡◌, ℕ, ◌<◌, ◌≤◌, Bool, List, [], ◌∷◌, length, Option, None, Some, refl, sym, ap, ◌∙◌}
use Rattle.std.proofs.Common.{subst, arith, inl, inr}
use Rattle.std.specs.List.{prefix_len}
use Rattle.std.specs.Char.{is_ascii_digit}
use Rattle.std.proofs.lemmas.List.{length-append, length-drop}
use Rattle.std.proofs.lemmas.Bool.{cases_Bool}
use Rattle.python_format.specs.declared.parts.Amount.TheVariants.{Star, Fixed}
use Rattle.python_format.specs.PythonPieces.{is_modifier, percent, is_flag, NameAt, AmountAt, PrecisionAt}
use Rattle.python_format.specs.PythonPieces.{behind_modifier, kind_of}
use Rattle.python_format.specs.declared.parts.Amount.{Amount}
use Rattle.python_format.specs.PythonDirectives.{Directive, DirectiveAt}
use Rattle.format_arguments.specs.Bytes.{behind}
use Rattle.format_arguments.specs.Text.{AreDirectives}
use Rattle.python_format.proofs.PartLemmas.{name_one, amount_one, precision_one}

-- every reading of the text comes to the same precision, and to the same place behind it
pub reach : (d : Directive) (text more : List ℕ) (x : DirectiveAt d (percent ∷ text) more) (name : Option (List ℕ))
    (behind_name : List ℕ) → NameAt name text behind_name → (width : Amount) (behind_width : List ℕ)
    → AmountAt width (behind is_flag behind_name) behind_width → (precision : Amount) (behind_precision : List ℕ)
    → PrecisionAt precision behind_width behind_precision
    → (d.name ≡ name) × (d.width ≡ width) × (d.precision ≡ precision) × (x.behind_precision ≡ behind_precision)
reach d text more x name behind_name n width behind_width w precision behind_precision p =
    let begins : x.behind_percent ≡ text = cc x.begins in
    let names = name_one d.name name text x.behind_name behind_name
    (subst (λ (t : List ℕ). NameAt d.name t x.behind_name) begins x.name_at) n in
    let widths = amount_one d.width width (behind is_flag behind_name) x.behind_width behind_width
    (subst (λ (t : List ℕ). AmountAt d.width (behind is_flag t) x.behind_width) names.1 x.width_at) w in
    let precisions = precision_one d.precision precision behind_width x.behind_precision behind_precision
    (subst (λ (t : List ℕ). PrecisionAt d.precision t x.behind_precision) widths.1 x.precision_at) p in
    (names.0, widths.0, precisions.0, precisions.1)

-- every reading of the text comes to the same conversion and kind
pub ends : (d : Directive) (text more : List ℕ) (x : DirectiveAt d (percent ∷ text) more) (precision : Amount)
    (behind_precision : List ℕ) → d.precision ≡ precision → x.behind_precision ≡ behind_precision → (conversion : ℕ)
    (rest : List ℕ) → behind_modifier behind_precision ≡ conversion ∷ rest
    → (kind_of conversion precision ≡ Some d.kind) × (more ≡ rest)
ends d text more x precision behind_precision e f conversion rest g =
    let whole : x.conversion ∷ more ≡ conversion ∷ rest = sym x.conversion_at ∙ ap behind_modifier f ∙ g in
    let same : x.conversion ≡ conversion = cc whole in (
      subst (λ (p : Amount). kind_of conversion p ≡ Some d.kind) e
          (subst (λ (c : ℕ). kind_of c d.precision ≡ Some d.kind) same x.kind_is),
      cc whole,
    )

same_directive : (d e : Directive) → d.name ≡ e.name → d.width ≡ e.width → d.precision ≡ e.precision → d.kind ≡ e.kind
    → d ≡ e
same_directive d e a b c f = rw (a, b, c, f) refl

pub directive_one : (d e : Directive) (text rest more : List ℕ) → DirectiveAt d text rest → DirectiveAt e text more
    → (d ≡ e) × (rest ≡ more)
directive_one d e text rest more x y =
    let x' : DirectiveAt d (percent ∷ y.behind_percent) rest =
    subst (λ (t : List ℕ). DirectiveAt d t rest) y.begins x in
    let r = reach d y.behind_percent rest x' e.name y.behind_name y.name_at e.width y.behind_width y.width_at
    e.precision y.behind_precision y.precision_at in
    let z = ends d y.behind_percent rest x' e.precision y.behind_precision r.2 r.3 y.conversion more y.conversion_at in
    let kinds : d.kind ≡ e.kind = cc (z.0, y.kind_is) in
    (same_directive d e r.0 r.1 r.2 kinds, z.1)

pub no_conversion : (d : Directive) (text more : List ℕ) (x : DirectiveAt d (percent ∷ text) more)
    (behind_precision : List ℕ) → x.behind_precision ≡ behind_precision → behind_modifier behind_precision ≡ [] → ⊥
no_conversion d text more x behind_precision f g =
    let whole : x.conversion ∷ more ≡ [] = sym x.conversion_at ∙ ap behind_modifier f ∙ g in
    absurd (cc whole)

pub no_name_here : (text : List ℕ) → ((name : Option (List ℕ)) (rest : List ℕ) → NameAt name text rest → ⊥)
    → (d : Directive) (more : List ℕ) → DirectiveAt d (percent ∷ text) more → ⊥
no_name_here text none d more x =
    let begins : x.behind_percent ≡ text = cc x.begins in
    none d.name x.behind_name (subst (λ (t : List ℕ). NameAt d.name t x.behind_name) begins x.name_at)

-- ---- lengths

name_within : (name : Option (List ℕ)) (text rest : List ℕ) → NameAt name text rest → length rest ≤ length text
name_within None text rest (b, e) = omega (arith, ap length e)
name_within (Some n) text rest (e, balanced) = omega (arith, ap length e, length-append n (41 ∷ rest))

behind_within : (test : ℕ → Bool) (text : List ℕ) → length (behind test text) ≤ length text
behind_within test text = omega (arith, length-drop (prefix_len test text) text)

amount_within : (a : Amount) (text rest : List ℕ) → AmountAt a text rest → length rest ≤ length text
amount_within Star text rest e = omega (arith, ap length e)
amount_within (Fixed z) text rest (none, e, f) = omega (arith, ap length f, behind_within is_ascii_digit text)

precision_within : (a : Amount) (text rest : List ℕ) → PrecisionAt a text rest → length rest ≤ length text
precision_within a text rest (inl (after, e, x)) = omega (arith, ap length e, amount_within a after rest x)
precision_within a text rest (inr (none, e, f)) = omega (arith, ap length f)

modifier_within : (text : List ℕ) → length (behind_modifier text) ≤ length text
modifier_within [] = omega arith
modifier_within (b ∷ more) = elim (cases_Bool (is_modifier b)) [
  | inl e ↦ rw e (omega arith)
  | inr e ↦ rw e (omega arith)
]

pub directive_shorter : (d : Directive) (text rest : List ℕ) → DirectiveAt d text rest → length rest < length text
directive_shorter d text rest x = omega (
  arith,
  ap length x.begins,
  name_within d.name x.behind_percent x.behind_name x.name_at,
  behind_within is_flag x.behind_name,
  amount_within d.width (behind is_flag x.behind_name) x.behind_width x.width_at,
  precision_within d.precision x.behind_width x.behind_precision x.precision_at,
  modifier_within x.behind_precision,
  ap length x.conversion_at,
)

pub are_directives : AreDirectives percent DirectiveAt
are_directives = record {
  begins = λ d text rest x. (x.behind_percent, x.begins);
  one = directive_one;
  shorter = directive_shorter;
}
