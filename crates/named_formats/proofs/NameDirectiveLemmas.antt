-- A text begins with at most one directive.
use Rattle.std.proofs.Common.{◌≡◌, ℕ, ◌<◌, ◌≤◌, List, [], ◌∷◌, length, Option, None, Some, refl, sym, ap, ◌∙◌, ◌==◌}
use Rattle.std.proofs.Common.{arith, inl, inr}
use Rattle.std.specs.List.{prefix_len}
use Rattle.std.proofs.lemmas.Bool.{cases_Bool}
use Rattle.std.proofs.lemmas.List.{length-drop}
use Rattle.format_arguments.specs.Bytes.{behind, run}
use Rattle.format_arguments.specs.Text.{AreDirectives}
use Rattle.python_brace_format.specs.BraceFields.{is_letter, is_word}
use Rattle.python_brace_format.specs.BraceSpecifiers.{open_brace, close_brace}
use Rattle.named_formats.specs.declared.Notation.{Notation}
use Rattle.named_formats.specs.declared.Notation.TheVariants.{PerlBrace, Shell}
use Rattle.named_formats.specs.NameDirectives.{mark, split_name, with_brace, split_closed_name, shell, name_in}
use Rattle.named_formats.specs.NameDirectives.{behind_plain, DirectiveAt}

-- ---- what follows is no longer than the text

abbrev Within : List ℕ → Option (List ℕ × List ℕ) → Type 0
Within text found = (name rest : List ℕ) → found ≡ Some (name, rest) → length rest ≤ length text

same_rest : (p q : List ℕ × List ℕ) → Some p ≡ Some q → length q.1 ≤ length p.1
same_rest p q e =
    let same : p ≡ q = cc e in
    omega (arith, ap (λ (x : List ℕ × List ℕ). length x.1) same)

name_within : (text : List ℕ) → Within text (split_name text)
name_within [] name rest e = absurd (cc e)
name_within (b ∷ more) name rest e = elim (cases_Bool (is_letter b)) [
  | inl letter ↦
      omega (
        arith,
        length-drop (prefix_len is_word (b ∷ more)) (b ∷ more),
        same_rest (run is_word (b ∷ more), behind is_word (b ∷ more)) (name, rest) (rw letter at e),
      )
  | inr other ↦ absurd (cc (rw other at e))
]

closed_within : (text : List ℕ) (found : Option (List ℕ × List ℕ)) → Within text found → Within text (with_brace found)
closed_within text None within name rest e = absurd (cc e)
closed_within text (Some (found, [])) within name rest e = absurd (cc e)
closed_within text (Some (found, b ∷ more)) within name rest e = elim (cases_Bool (b == close_brace)) [
  | inl is ↦ omega (arith, within found (b ∷ more) refl, same_rest (found, more) (name, rest) (rw is at e))
  | inr other ↦ absurd (cc (rw other at e))
]

closed_name_within : (text : List ℕ) → Within text (split_closed_name text)
closed_name_within text = closed_within text (split_name text) (name_within text)

shell_within : (text : List ℕ) → Within text (shell text)
shell_within [] name rest e = absurd (cc e)
shell_within (b ∷ more) name rest e = elim (cases_Bool (b == open_brace)) [
  | inl is ↦ omega (arith, closed_name_within more name rest (rw is at e))
  | inr other ↦ name_within (b ∷ more) name rest (rw other at e)
]

all_within : (notation : Notation) (text : List ℕ) → Within text (name_in notation text)
all_within PerlBrace text = closed_name_within text
all_within Shell text = shell_within text

plain_within : (notation : Notation) (text rest : List ℕ) → behind_plain notation text ≡ Some rest
    → length rest ≤ length text
plain_within PerlBrace text rest e =
    let same : text ≡ rest = cc e in
    omega (arith, ap length same)
plain_within Shell text rest e = absurd (cc e)

-- ---- one directive

directive_one : (notation : Notation) (d e : Option (List ℕ)) (text rest more : List ℕ)
    → DirectiveAt notation d text rest → DirectiveAt notation e text more → (d ≡ e) × (rest ≡ more)
directive_one notation None None text rest more (a, f, g, h) (b, i, j, k) =
    let same : a ≡ b = cc (f, i) in
    (refl, cc (h, k, ap (behind_plain notation) same))
directive_one notation None (Some s) text rest more (a, f, g, h) (b, i, j) =
    let same : a ≡ b = cc (f, i) in
    absurd (cc (g, j, ap (name_in notation) same))
directive_one notation (Some r) None text rest more (a, f, g) (b, i, j, k) =
    let same : a ≡ b = cc (f, i) in
    absurd (cc (g, j, ap (name_in notation) same))
directive_one notation (Some r) (Some s) text rest more (a, f, g) (b, i, j) =
    let same : a ≡ b = cc (f, i) in
    let found : Some (r, rest) ≡ Some (s, more) = sym g ∙ ap (name_in notation) same ∙ j in
    let whole : (r, rest) ≡ (s, more) = cc found in
    (ap (λ (p : List ℕ × List ℕ). Some p.0) whole, ap (λ (p : List ℕ × List ℕ). p.1) whole)

directive_shorter : (notation : Notation) (d : Option (List ℕ)) (text rest : List ℕ)
    → DirectiveAt notation d text rest → length rest < length text
directive_shorter notation None text rest (a, f, g, h) =
    omega (arith, ap length f, plain_within notation a rest h)
directive_shorter notation (Some name) text rest (a, f, g) =
    omega (arith, ap length f, all_within notation a name rest g)

directive_begins : (notation : Notation) (d : Option (List ℕ)) (text rest : List ℕ)
    → DirectiveAt notation d text rest → (behind : List ℕ) × (text ≡ mark notation ∷ behind)
directive_begins notation None text rest (a, f, g, h) = (a, f)
directive_begins notation (Some name) text rest (a, f, g) = (a, f)

pub are_directives : (notation : Notation) → AreDirectives (mark notation) (DirectiveAt notation)
are_directives notation = record {
  begins = directive_begins notation;
  one = directive_one notation;
  shorter = directive_shorter notation;
}

-- ---- where a reader finds nothing, the text begins with no directive

pub no_directive : (notation : Notation) (text : List ℕ) → name_in notation text ≡ None
    → behind_plain notation text ≡ None → (d : Option (List ℕ)) (rest : List ℕ)
    → DirectiveAt notation d (mark notation ∷ text) rest → ⊥
no_directive notation text none bare None rest (a, f, g, h) =
    let same : text ≡ a = cc f in
    absurd (cc (h, bare, ap (behind_plain notation) same))
no_directive notation text none bare (Some name) rest (a, f, g) =
    let same : text ≡ a = cc f in
    absurd (cc (g, none, ap (name_in notation) same))
