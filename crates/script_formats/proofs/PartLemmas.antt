-- What follows a part of a directive is no longer than the text.
use Rattle.std.proofs.Common.{◌≡◌, ℕ, ◌≤◌, Bool, List, [], ◌∷◌, length, Option, None, Some}
use Rattle.std.proofs.Common.{refl, ap, arith, inl, inr, ◌==◌}
use Rattle.std.specs.List.{prefix_len}
use Rattle.std.specs.Char.{is_ascii_digit}
use Rattle.std.proofs.lemmas.Bool.{cases_Bool}
use Rattle.std.proofs.lemmas.List.{length-drop}
use Rattle.format_arguments.specs.Bytes.{run, behind}
use Rattle.numbered_arguments.specs.NumberedArguments.{number_of}
use Rattle.script_formats.specs.ScriptParts.{dollar, dollar_at, number_at, index_from, index_at, amount}
use Rattle.script_formats.specs.ScriptParts.{behind_precision, behind_percent}

abbrev pub Within : (A : Type 0) → List ℕ → Option (A × List ℕ) → Type 0
Within A text found = (p : A × List ℕ) → found ≡ Some p → length p.1 ≤ length text

pub some_is : (A : Type 0) (p q : A × List ℕ) (n : ℕ) → Some p ≡ Some q → length p.1 ≤ n → length q.1 ≤ n
some_is A p q n e le =
    let same : p ≡ q = cc e in
    omega (arith, le, ap (λ (x : A × List ℕ). length x.1) same)

pub behind_within : (test : ℕ → Bool) (text : List ℕ) → length (behind test text) ≤ length text
behind_within test text = omega (arith, length-drop (prefix_len test text) text)

dollar_within : (number : ℕ) (text : List ℕ) → Within ℕ text (dollar_at number text)
dollar_within number [] p e = absurd (cc e)
dollar_within number (b ∷ more) p e = elim (cases_Bool (b == dollar)) [
  | inl is ↦ some_is ℕ (number, more) p (length (b ∷ more)) (rw is at e) (omega arith)
  | inr other ↦ absurd (cc (rw other at e))
]

pub number_within : (text : List ℕ) → Within ℕ text (number_at text)
number_within text p e = omega (
  arith,
  behind_within is_ascii_digit text,
  dollar_within (number_of (run is_ascii_digit text)) (behind is_ascii_digit text) p e,
)

place_of_within : (text : List ℕ) (found : Option (ℕ × List ℕ)) → Within ℕ text found
    → Within (Option ℕ) text (index_from text found)
place_of_within text None h p e = some_is (Option ℕ) (None, text) p (length text) e (omega arith)
place_of_within text (Some x) h p e = elim (cases_Bool (x.0 == 0)) [
  | inl none ↦ absurd (cc (rw none at e))
  | inr other ↦ some_is (Option ℕ) (Some x.0, x.1) p (length text) (rw other at e) (h x refl)
]

pub index_within : (text : List ℕ) → Within (Option ℕ) text (index_at text)
index_within text = place_of_within text (number_at text) (number_within text)

pub precision_within : (text : List ℕ) → length (behind_precision text) ≤ length text
precision_within [] = omega arith
precision_within (b ∷ more) = elim (cases_Bool (b == 46)) [
  | inl e ↦ rw e (omega (arith, behind_within is_ascii_digit more))
  | inr e ↦ rw e (omega arith)
]

pub amount_within : (number : Option ℕ) (text : List ℕ) → length (amount number text).1 ≤ length text
amount_within number [] = omega arith
amount_within number (b ∷ more) = elim (cases_Bool (b == 42)) [
  | inl e ↦ rw e (omega arith)
  | inr e ↦ rw e (behind_within is_ascii_digit (b ∷ more))
]

pub percent_within : (text rest : List ℕ) → behind_percent text ≡ Some rest → length rest ≤ length text
percent_within [] rest e = absurd (cc e)
percent_within (b ∷ more) rest e = elim (cases_Bool (b == 37)) [
  | inl is ↦
      let found : Some more ≡ Some rest = rw is at e in
      let same : more ≡ rest = cc found in
      omega (arith, ap (λ (t : List ℕ). length t) same)
  | inr other ↦ absurd (cc (rw other at e))
]
