-- A text begins with at most one directive.
use Rattle.std.proofs.Common.{◌≡◌, ℕ, ◌<◌, List, ◌∷◌, ◌++◌, length, Option, None, Some, refl, sym, ap}
use Rattle.std.proofs.Common.{◌∙◌, subst, arith, inl, inr}
use Rattle.std.proofs.lemmas.List.{append_cancel_right, length-append}
use Rattle.format_arguments.specs.Text.{AreDirectives}
use Rattle.python_brace_format.specs.BraceFields.{FieldAt}
use Rattle.python_brace_format.specs.BraceSpecifiers.{open_brace, close_brace, NestedAt, SpecifierAt, FormatAt}
use Rattle.python_brace_format.specs.BraceDirectives.{ReplacementAt, DirectiveAt}
use Rattle.python_brace_format.proofs.FieldLemmas.{field_one}

-- an opening brace begins no field
pub no_field : (text rest : List ℕ) → FieldAt (open_brace ∷ text) rest → ⊥
no_field text rest (first, e, accesses) = absurd (cc e)

nested_one : (text rest other : List ℕ) → NestedAt text rest → NestedAt text other → rest ≡ other
nested_one text rest other (inl e) (inl f) = cc (e, f)
nested_one text rest other (inl e) (inr x) =
    absurd (no_field rest _ (subst (λ (t : List ℕ). FieldAt t (close_brace ∷ other)) e x))
nested_one text rest other (inr x) (inl e) =
    absurd (no_field other _ (subst (λ (t : List ℕ). FieldAt t (close_brace ∷ rest)) e x))
nested_one text rest other (inr x) (inr y) =
    let same : close_brace ∷ rest ≡ close_brace ∷ other = field_one text _ _ x y in
    cc same

specifier_one : (text rest other : List ℕ) → SpecifierAt text rest → SpecifierAt text other → rest ≡ other
specifier_one text rest other (inl (inner, e, x)) (inl (also, f, y)) =
    let same : inner ≡ also = cc (e, f) in
    nested_one also rest other (subst (λ (t : List ℕ). NestedAt t rest) same x) y
specifier_one text rest other (inl (inner, e, x)) (inr (none, f)) = absurd (none inner e)
specifier_one text rest other (inr (none, e)) (inl (inner, f, x)) = absurd (none inner f)
specifier_one text rest other (inr (none, e)) (inr (also, f)) = e ∙ sym f

format_one : (text rest other : List ℕ) → FormatAt text rest → FormatAt text other → rest ≡ other
format_one text rest other (inl (after, e, x)) (inl (behind, f, y)) =
    let same : after ≡ behind = cc (e, f) in
    specifier_one behind rest other (subst (λ (t : List ℕ). SpecifierAt t rest) same x) y
format_one text rest other (inl (after, e, x)) (inr (none, f)) = absurd (none after e)
format_one text rest other (inr (none, e)) (inl (after, f, x)) = absurd (none after f)
format_one text rest other (inr (none, e)) (inr (also, f)) = e ∙ sym f

-- every reading of the text comes to the same place behind the format
pub reach : (name inner rest behind_field behind : List ℕ) → ReplacementAt name (open_brace ∷ inner) rest
    → FieldAt inner behind_field → FormatAt behind_field behind → close_brace ∷ rest ≡ behind
reach name inner rest behind_field behind x field format =
    let begins : x.inner ≡ inner = cc x.begins in
    let here : FieldAt inner x.behind_field =
    subst (λ (t : List ℕ). FieldAt t x.behind_field) begins x.field_at in
    let same : x.behind_field ≡ behind_field = field_one inner x.behind_field behind_field here field in
    format_one behind_field (close_brace ∷ rest) behind
    (subst (λ (t : List ℕ). FormatAt t (close_brace ∷ rest)) same x.format_at) format

replacement_one : (name other text rest more : List ℕ) → ReplacementAt name text rest → ReplacementAt other text more
    → (name ≡ other) × (rest ≡ more)
replacement_one name other text rest more x y =
    let here : ReplacementAt name (open_brace ∷ y.inner) rest =
    subst (λ (t : List ℕ). ReplacementAt name t rest) y.begins x in
    let closing : close_brace ∷ rest ≡ close_brace ∷ more =
    reach name y.inner rest y.behind_field (close_brace ∷ more) here y.field_at y.format_at in
    let begins : here.inner ≡ y.inner = cc here.begins in
    let whole : name ++ close_brace ∷ rest ≡ other ++ close_brace ∷ rest = sym here.name_is ∙ begins ∙ y.name_is
    ∙ ap (λ (t : List ℕ). other ++ t) (sym closing) in
    (append_cancel_right name other (close_brace ∷ rest) whole, cc closing)

pub no_replacement : (name text rest : List ℕ) → ReplacementAt name (open_brace ∷ (open_brace ∷ text)) rest → ⊥
no_replacement name text rest x =
    let begins : x.inner ≡ open_brace ∷ text = cc x.begins in
    no_field text x.behind_field (subst (λ (t : List ℕ). FieldAt t x.behind_field) begins x.field_at)

directive_one : (d e : Option (List ℕ)) (text rest more : List ℕ) → DirectiveAt d text rest → DirectiveAt e text more
    → (d ≡ e) × (rest ≡ more)
directive_one None None text rest more e f = (refl, cc (e, f))
directive_one None (Some name) text rest more e x =
    absurd (no_replacement name rest more (subst (λ (t : List ℕ). ReplacementAt name t more) e x))
directive_one (Some name) None text rest more x e =
    absurd (no_replacement name more rest (subst (λ (t : List ℕ). ReplacementAt name t rest) e x))
directive_one (Some name) (Some other) text rest more x y =
    let r = replacement_one name other text rest more x y in
    (ap (λ (n : List ℕ). Some n) r.0, r.1)

directive_shorter : (d : Option (List ℕ)) (text rest : List ℕ) → DirectiveAt d text rest → length rest < length text
directive_shorter None text rest e = omega (arith, ap length e)
directive_shorter (Some name) text rest x =
    omega (arith, ap length x.begins, ap length x.name_is, length-append name (close_brace ∷ rest))

directive_begins : (d : Option (List ℕ)) (text rest : List ℕ) → DirectiveAt d text rest
    → (behind : List ℕ) × (text ≡ open_brace ∷ behind)
directive_begins None text rest e = (open_brace ∷ rest, e)
directive_begins (Some name) text rest x = (x.inner, x.begins)

pub are_directives : AreDirectives open_brace DirectiveAt
are_directives = record {
  begins = directive_begins;
  one = directive_one;
  shorter = directive_shorter;
}
