-- A text begins with at most one directive.
use Rattle.std.proofs.Common.{◌≡◌, ℕ, ◌<◌, ◌≤◌, List, [], ◌∷◌, length, Option, None, Some, refl, sym, ap, ◌∙◌}
use Rattle.std.proofs.Common.{◌==◌, arith, inl, inr}
use Rattle.std.specs.List.{prefix_len}
use Rattle.std.specs.Char.{is_ascii_digit}
use Rattle.std.proofs.lemmas.Bool.{cases_Bool}
use Rattle.std.proofs.lemmas.List.{length-drop}
use Rattle.format_arguments.specs.Bytes.{behind, run}
use Rattle.format_arguments.specs.Text.{AreDirectives}
use Rattle.numbered_arguments.specs.declared.Kind.{Kind}
use Rattle.numbered_arguments.specs.declared.Kind.TheVariants.{Any, Integer}
use Rattle.numbered_arguments.specs.NumberedArguments.{number_of}
use Rattle.numbered_arguments.specs.declared.Size.TheVariants.{Plain}
use Rattle.numbered_arguments.specs.declared.Request.{Request}
use Rattle.numbered_formats.specs.declared.Notation.{Notation}
use Rattle.numbered_formats.specs.declared.Notation.TheVariants.{Qt, QtPlural, Kde, Ycp, Smalltalk}
use Rattle.numbered_formats.specs.NumberDirectives.{percent, numbered_request, is_first_digit, digit_value}
use Rattle.numbered_formats.specs.NumberDirectives.{second_digit, digits_at, qt, n, qt_plural, kde, digit, request}
use Rattle.numbered_formats.specs.NumberDirectives.{behind_percent, behind_plain, DirectiveAt}

-- ---- what follows is no longer than the text

abbrev Within : List ℕ → Option (Request × List ℕ) → Type 0
Within text found = (r : Request) (rest : List ℕ) → found ≡ Some (r, rest) → length rest ≤ length text

second_within : (kind : Kind) (first : ℕ) (text : List ℕ) → length (second_digit kind first text).1 ≤ length text
second_within kind first [] = omega arith
second_within kind first (b ∷ more) = elim (cases_Bool (is_ascii_digit b)) [
  | inl e ↦ rw e (omega arith)
  | inr e ↦ rw e (omega arith)
]

digits_within : (kind : Kind) (text : List ℕ) → Within text (digits_at kind text)
digits_within kind [] r rest e = absurd (cc e)
digits_within kind (b ∷ more) r rest e = elim (cases_Bool (is_ascii_digit b)) [
  | inl digit ↦
      let same : second_digit kind (digit_value b) more ≡ (r, rest) = cc (rw digit at e) in
      omega (arith, second_within kind (digit_value b) more, ap (λ (p : Request × List ℕ). length p.1) same)
  | inr other ↦ absurd (cc (rw other at e))
]

one_more : (b : ℕ) (more : List ℕ) (found : Option (Request × List ℕ)) → Within more found → Within (b ∷ more) found
one_more b more found within r rest e = omega (arith, within r rest e)

qt_within : (text : List ℕ) → Within text (qt text)
qt_within [] r rest e = absurd (cc e)
qt_within (b ∷ more) r rest e = elim (cases_Bool (b == 76)) [
  | inl l ↦ one_more b more (digits_at _ more) (digits_within _ more) r rest (rw l at e)
  | inr none ↦ digits_within _ (b ∷ more) r rest (rw none at e)
]

some_rest : (p q : Request × List ℕ) → Some p ≡ Some q → length q.1 ≤ length p.1
some_rest p q e =
    let same : p ≡ q = cc e in
    omega (arith, ap (λ (x : Request × List ℕ). length x.1) same)

n_within : (text : List ℕ) → Within text (n text)
n_within [] r rest e = absurd (cc e)
n_within (b ∷ more) r rest e = elim (cases_Bool (b == 110)) [
  | inl is ↦ omega (arith, some_rest (numbered_request 1 (Integer Plain), more) (r, rest) (rw is at e))
  | inr other ↦ absurd (cc (rw other at e))
]

plural_within : (text : List ℕ) → Within text (qt_plural text)
plural_within [] r rest e = absurd (cc e)
plural_within (b ∷ more) r rest e = elim (cases_Bool (b == 76)) [
  | inl l ↦ one_more b more (n more) (n_within more) r rest (rw l at e)
  | inr none ↦ n_within (b ∷ more) r rest (rw none at e)
]

kde_within : (text : List ℕ) → Within text (kde text)
kde_within [] r rest e = absurd (cc e)
kde_within (b ∷ more) r rest e = elim (cases_Bool (is_first_digit b)) [
  | inl digit ↦
      omega (
        arith,
        length-drop (prefix_len is_ascii_digit (b ∷ more)) (b ∷ more),
        some_rest (numbered_request (number_of (run is_ascii_digit (b ∷ more))) Any, behind is_ascii_digit (b ∷ more))
            (r, rest) (rw digit at e),
      )
  | inr other ↦ absurd (cc (rw other at e))
]

digit_within : (text : List ℕ) → Within text (digit text)
digit_within [] r rest e = absurd (cc e)
digit_within (b ∷ more) r rest e = elim (cases_Bool (is_first_digit b)) [
  | inl digit ↦ omega (arith, some_rest (numbered_request (digit_value b) Any, more) (r, rest) (rw digit at e))
  | inr other ↦ absurd (cc (rw other at e))
]

request_within : (notation : Notation) (text : List ℕ) → Within text (request notation text)
request_within Qt text = qt_within text
request_within QtPlural text = plural_within text
request_within Kde text = kde_within text
request_within Ycp text = digit_within text
request_within Smalltalk text = digit_within text

percent_within : (text rest : List ℕ) → behind_percent text ≡ Some rest → length rest ≤ length text
percent_within [] rest e = absurd (cc e)
percent_within (b ∷ more) rest e = elim (cases_Bool (b == percent)) [
  | inl is ↦
      let same : more ≡ rest = cc (rw is at e) in
      omega (arith, ap length same)
  | inr other ↦ absurd (cc (rw other at e))
]

all_within : (text rest : List ℕ) → Some text ≡ Some rest → length rest ≤ length text
all_within text rest e =
    let same : text ≡ rest = cc e in
    omega (arith, ap length same)

plain_within : (notation : Notation) (text rest : List ℕ) → behind_plain notation text ≡ Some rest
    → length rest ≤ length text
plain_within Ycp text rest e = percent_within text rest e
plain_within Smalltalk text rest e = percent_within text rest e
plain_within Qt text rest e = all_within text rest e
plain_within QtPlural text rest e = all_within text rest e
plain_within Kde text rest e = all_within text rest e

-- ---- one directive

directive_one : (notation : Notation) (d e : Option Request) (text rest more : List ℕ)
    → DirectiveAt notation d text rest → DirectiveAt notation e text more → (d ≡ e) × (rest ≡ more)
directive_one notation None None text rest more (a, f, g, h) (b, i, j, k) =
    let same : a ≡ b = cc (f, i) in
    (refl, cc (h, k, ap (behind_plain notation) same))
directive_one notation None (Some s) text rest more (a, f, g, h) (b, i, j) =
    let same : a ≡ b = cc (f, i) in
    absurd (cc (g, j, ap (request notation) same))
directive_one notation (Some r) None text rest more (a, f, g) (b, i, j, k) =
    let same : a ≡ b = cc (f, i) in
    absurd (cc (g, j, ap (request notation) same))
directive_one notation (Some r) (Some s) text rest more (a, f, g) (b, i, j) =
    let same : a ≡ b = cc (f, i) in
    let found : Some (r, rest) ≡ Some (s, more) = sym g ∙ ap (request notation) same ∙ j in
    let whole : (r, rest) ≡ (s, more) = cc found in
    (ap (λ (p : Request × List ℕ). Some p.0) whole, ap (λ (p : Request × List ℕ). p.1) whole)

directive_shorter : (notation : Notation) (d : Option Request) (text rest : List ℕ)
    → DirectiveAt notation d text rest → length rest < length text
directive_shorter notation None text rest (a, f, g, h) =
    omega (arith, ap length f, plain_within notation a rest h)
directive_shorter notation (Some r) text rest (a, f, g) =
    omega (arith, ap length f, request_within notation a r rest g)

directive_begins : (notation : Notation) (d : Option Request) (text rest : List ℕ)
    → DirectiveAt notation d text rest → (behind : List ℕ) × (text ≡ percent ∷ behind)
directive_begins notation None text rest (a, f, g, h) = (a, f)
directive_begins notation (Some r) text rest (a, f, g) = (a, f)

pub are_directives : (notation : Notation) → AreDirectives percent (DirectiveAt notation)
are_directives notation = record {
  begins = directive_begins notation;
  one = directive_one notation;
  shorter = directive_shorter notation;
}

-- ---- where a reader finds nothing, the text begins with no directive

pub no_directive : (notation : Notation) (text : List ℕ) → request notation text ≡ None
    → behind_plain notation text ≡ None → (d : Option Request) (rest : List ℕ)
    → DirectiveAt notation d (percent ∷ text) rest → ⊥
no_directive notation text none bare None rest (a, f, g, h) =
    let same : text ≡ a = cc f in
    absurd (cc (h, bare, ap (behind_plain notation) same))
no_directive notation text none bare (Some r) rest (a, f, g) =
    let same : text ≡ a = cc f in
    absurd (cc (g, none, ap (request notation) same))
