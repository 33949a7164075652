-- What follows a piece of a text is shorter than the text.
use Rattle.std.proofs.Common.{◌≡◌, ℕ, ◌≤◌, ◌<◌, List, [], ◌∷◌, length, Option, None, Some, refl, ap, arith, inl, inr}
use Rattle.std.proofs.Common.{◌==◌, Bool}
use Rattle.std.specs.List.{prefix_len}
use Rattle.std.specs.Char.{is_ascii_digit}
use Rattle.std.proofs.lemmas.Bool.{cases_Bool}
use Rattle.std.proofs.lemmas.List.{length-drop}
use Rattle.format_arguments.specs.Bytes.{run, behind, behind_one}
use Rattle.numbered_arguments.specs.NumberedArguments.{number_of}
use Rattle.csharp_format.specs.CSharpItems.{open_brace, close_brace, comma, colon, behind_digits, is_minus}
use Rattle.csharp_format.specs.CSharpItems.{behind_alignment, is_inner, behind_format, behind_brace, with_alignment}
use Rattle.csharp_format.specs.CSharpItems.{with_brace}
use Rattle.csharp_format.specs.CSharpItems.{with_number, item, item_piece, behind_opening, behind_closing, piece}

-- what was found is no longer than the text
abbrev Within : List ℕ → Option (List ℕ) → Type 0
Within text found = (rest : List ℕ) → found ≡ Some rest → length rest ≤ length text

abbrev PairWithin : (A : Type 0) → List ℕ → Option (A × List ℕ) → Type 0
PairWithin A text found = (p : A × List ℕ) → found ≡ Some p → length p.1 ≤ length text

some_within : (text rest : List ℕ) (n : ℕ) → Some text ≡ Some rest → length text ≤ n → length rest ≤ n
some_within text rest n e le =
    let same : text ≡ rest = cc e in
    omega (arith, le, ap length same)

pair_within : (A : Type 0) (p q : A × List ℕ) (n : ℕ) → Some p ≡ Some q → length p.1 ≤ n → length q.1 ≤ n
pair_within A p q n e le =
    let same : p ≡ q = cc e in
    omega (arith, le, ap (λ (x : A × List ℕ). length x.1) same)

behind_within : (test : ℕ → Bool) (text : List ℕ) → length (behind test text) ≤ length text
behind_within test text = omega (arith, length-drop (prefix_len test text) text)

one_within : (test : ℕ → Bool) (text : List ℕ) → length (behind_one test text) ≤ length text
one_within test [] = omega arith
one_within test (b ∷ more) = elim (cases_Bool (test b)) [
  | inl e ↦ rw e (omega arith)
  | inr e ↦ rw e (omega arith)
]

digits_within : (text : List ℕ) → Within text (behind_digits text)
digits_within [] rest e = absurd (cc e)
digits_within (b ∷ more) rest e = elim (cases_Bool (is_ascii_digit b)) [
  | inl is ↦ some_within (behind is_ascii_digit more) rest (length (b ∷ more)) (rw is at e)
      (omega (arith, behind_within is_ascii_digit more))
  | inr other ↦ absurd (cc (rw other at e))
]

alignment_within : (text : List ℕ) → Within text (behind_alignment text)
alignment_within [] rest e = some_within [] rest 0 e (omega arith)
alignment_within (b ∷ more) rest e = elim (cases_Bool (b == comma)) [
  | inl is ↦ omega (arith, one_within is_minus more, digits_within (behind_one is_minus more) rest (rw is at e))
  | inr other ↦ some_within (b ∷ more) rest (length (b ∷ more)) (rw other at e) (omega arith)
]

format_within : (text : List ℕ) → length (behind_format text) ≤ length text
format_within [] = omega arith
format_within (b ∷ more) = elim (cases_Bool (b == colon)) [
  | inl e ↦ rw e (omega (arith, behind_within is_inner more))
  | inr e ↦ rw e (omega arith)
]

brace_within : (text : List ℕ) → Within text (behind_brace text)
brace_within [] rest e = absurd (cc e)
brace_within (b ∷ more) rest e = elim (cases_Bool (b == close_brace)) [
  | inl is ↦ some_within more rest (length (b ∷ more)) (rw is at e) (omega arith)
  | inr other ↦ absurd (cc (rw other at e))
]

aligned_within : (text : List ℕ) (found : Option (List ℕ)) → Within text found → Within text (with_alignment found)
aligned_within text None h rest e = absurd (cc e)
aligned_within text (Some more) h rest e = omega (arith, h more refl, alignment_within more rest e)

closed_within : (text : List ℕ) (found : Option (List ℕ)) → Within text found → Within text (with_brace found)
closed_within text None h rest e = absurd (cc e)
closed_within text (Some more) h rest e =
    omega (arith, h more refl, format_within more, brace_within (behind_format more) rest e)

numbered_within : (text : List ℕ) (number : ℕ) (found : Option (List ℕ)) → Within text found
    → PairWithin ℕ text (with_number number found)
numbered_within text number None h p e = absurd (cc e)
numbered_within text number (Some rest) h p e = pair_within ℕ (number, rest) p (length text) e (h rest refl)

item_within : (text : List ℕ) → PairWithin ℕ text (item text)
item_within text = numbered_within text (number_of (run is_ascii_digit text))
    (with_brace (with_alignment (behind_digits text)))
    (closed_within text (with_alignment (behind_digits text))
    (aligned_within text (behind_digits text) (digits_within text)))

item_piece_within : (text : List ℕ) (found : Option (ℕ × List ℕ)) → PairWithin ℕ text found
    → PairWithin (Option ℕ) text (item_piece found)
item_piece_within text None h p e = absurd (cc e)
item_piece_within text (Some x) h p e = pair_within (Option ℕ) (Some x.0, x.1) p (length text) e (h x refl)

opened_within : (text : List ℕ) → PairWithin (Option ℕ) text (behind_opening text)
opened_within [] p e = absurd (cc e)
opened_within (b ∷ more) p e = elim (cases_Bool (b == open_brace)) [
  | inl is ↦ pair_within (Option ℕ) (None, more) p (length (b ∷ more)) (rw is at e) (omega arith)
  | inr other ↦ item_piece_within (b ∷ more) (item (b ∷ more)) (item_within (b ∷ more)) p (rw other at e)
]

doubled_within : (text : List ℕ) → PairWithin (Option ℕ) text (behind_closing text)
doubled_within [] p e = absurd (cc e)
doubled_within (b ∷ more) p e = elim (cases_Bool (b == close_brace)) [
  | inl is ↦ pair_within (Option ℕ) (None, more) p (length (b ∷ more)) (rw is at e) (omega arith)
  | inr other ↦ absurd (cc (rw other at e))
]

pub piece_shorter : (text : List ℕ) (p : Option ℕ × List ℕ) → piece text ≡ Some p → length p.1 < length text
piece_shorter [] p e = absurd (cc e)
piece_shorter (b ∷ more) p e = elim (cases_Bool (b == open_brace)) [
  | inl is ↦ omega (arith, opened_within more p (rw is at e))
  | inr other ↦ elim (cases_Bool (b == close_brace)) [
    | inl is ↦ omega (arith, doubled_within more p (rw (other, is) at e))
    | inr plain ↦
        let le : length p.1 ≤ length more =
        pair_within (Option ℕ) (None, more) p (length more) (rw (other, plain) at e) (omega arith) in
        omega (arith, le)
  ]
]
