-- The index of a form, as a word of the text.
use Rattle.std.proofs.Common.{◌≡◌, ℕ, ◌+◌, ◌*◌, ◌/◌, ◌%◌, ◌-◌, ◌<◌, ◌≤◌, ◌^◌, Bool, true, List, [], ◌∷◌, ◌++◌}
use Rattle.std.proofs.Common.{inl, inr, length, Some, refl, ap, ◌∙◌, arith, length-append}
use Rattle.std.specs.List.{list_all, take_while, fold, AllByRecursion}
use Rattle.std.specs.Fmt.{decimal}
use Rattle.std.specs.Char.{is_ascii_digit}
use Rattle.std.proofs.lemmas.Bool.{le-leb, ne_eqb, cases_Bool}
use Rattle.std.proofs.lemmas.Bool.Decides.{nat_tests}
use Rattle.std.proofs.lemmas.Fmt.{decimal_by_steps, length-decimal-le}
use Rattle.std.proofs.lemmas.Nat.{div-add-mod'}
use Rattle.std.proofs.lemmas.List.Sums.{take_while-cons}
use Rattle.byte_text.specs.Decimal.{decimal_value}
use Rattle.po_text.specs.Spelling.{Number, is_word_byte, word_token}

-- digits with this value
record AreDigits (n : ℕ) (ds : List ℕ) : Type 0 where
  digits : list_all is_ascii_digit ds ≡ true
  value : decimal_value ds ≡ n
  some : 1 ≤ length ds

digit_passes : (n : ℕ) → n < 10 → is_ascii_digit (48 + n) ≡ true
digit_passes n lt = rw (le-leb 48 (48 + n) (omega arith), le-leb (48 + n) 57 (omega arith)) refl

one_digit : (n : ℕ) → n < 10 → AreDigits n ((48 + n) ∷ [])
one_digit n lt = record {
  digits = rw (digit_passes n lt) refl;
  value = omega arith;
  some = omega arith;
}

list_all-push : (p : ℕ → Bool) (ds : List ℕ) (d : ℕ) → list_all p ds ≡ true → p d ≡ true
    → list_all p (ds ++ d ∷ []) ≡ true
list_all-push p [] d all one = rw one refl
list_all-push p (x ∷ ds) d all one = elim (cases_Bool (p x)) [
  | inl passes ↦ rw passes (list_all-push p ds d (rw passes at all) one)
  | inr fails ↦ let none = rw fails at all in absurd (cc none)
]

fold-push : (f : ℕ → ℕ → ℕ) (a : ℕ) (ds : List ℕ) (d : ℕ) → fold f a (ds ++ d ∷ []) ≡ f (fold f a ds) d
fold-push f a [] d = refl
fold-push f a (x ∷ ds) d = fold-push f (f a x) ds d

more_digits : (n : ℕ) (ds : List ℕ) → 10 ≤ n → AreDigits (n / 10) ds → AreDigits n (ds ++ (48 + n % 10) ∷ [])
more_digits n ds big h = record {
  digits = list_all-push is_ascii_digit ds (48 + n % 10) h.digits (digit_passes (n % 10) (omega arith));
  value =
      let pushed = fold-push (λ m d. 10 * m + (d - 48)) 0 ds (48 + n % 10) in
      let value = h.value in
      omega (arith, pushed, value, div-add-mod' n 10);
  some = omega (arith, length-append ds ((48 + n % 10) ∷ []));
}

are_digits : (n : ℕ) → n < 2 ^ 64 → AreDigits n (decimal n)
are_digits n fits = decimal_by_steps AreDigits one_digit more_digits n fits

digit_word : (d : ℕ) → is_ascii_digit d ≡ true → is_word_byte d ≡ true
digit_word d e = grind (arith, nat_tests)

digit_high : (d : ℕ) → is_ascii_digit d ≡ true → d < 58
digit_high d e = grind (arith, nat_tests)

-- a word of digits ends at the bracket
stops : (ds rest : List ℕ) → list_all is_ascii_digit ds ≡ true → take_while is_word_byte (ds ++ 93 ∷ rest) ≡ ds
stops [] rest all = take_while-cons is_word_byte 93 rest
stops (d ∷ ds) rest all = elim (cases_Bool (is_ascii_digit d)) [
  | inl digit ↦ take_while-cons is_word_byte d (ds ++ 93 ∷ rest)
      ∙ rw (digit_word d digit) (ap (λ (t : List ℕ). d ∷ t) (stops ds rest (rw digit at all)))
  | inr other ↦ let none = rw other at all in absurd (cc none)
]

number_token : (n : ℕ) (ds : List ℕ) → AreDigits n ds → length ds ≤ 9 → word_token ds ≡ Some (Number n)
number_token n [] h short = absurd (omega (arith, h.some))
number_token n (d ∷ ds) h short = elim (cases_Bool (is_ascii_digit d)) [
  | inl digit ↦
      let low = digit_high d digit in
      rw (
        ne_eqb d 109 (λ e. omega arith),
        h.digits,
        le-leb 1 (length (d ∷ ds)) h.some,
        le-leb (length (d ∷ ds)) 9 short,
        h.value,
      ) refl
  | inr other ↦ let none = rw other at h.digits in absurd (cc none)
]

-- the index is a word, and means its number
pub index_stops : (n : ℕ) (rest : List ℕ) → n < 1000000000 → take_while is_word_byte (decimal n ++ 93 ∷ rest)
    ≡ decimal n
index_stops n rest few = stops (decimal n) rest (are_digits n (omega arith)).digits

pub index_token : (n : ℕ) → n < 1000000000 → word_token (decimal n) ≡ Some (Number n)
index_token n few = number_token n (decimal n) (are_digits n (omega arith))
    (length-decimal-le 9 n (omega arith) (omega arith) (omega arith))

digits_ascii : (ds : List ℕ) → list_all is_ascii_digit ds ≡ true → AllByRecursion (λ b. b < 128) ds
digits_ascii [] all = tt
digits_ascii (d ∷ ds) all = elim (cases_Bool (is_ascii_digit d)) [
  | inl digit ↦ let low = digit_high d digit in (omega arith, digits_ascii ds (rw digit at all))
  | inr other ↦ let none = rw other at all in absurd (cc none)
]

pub index_ascii : (n : ℕ) → n < 1000000000 → AllByRecursion (λ b. b < 128) (decimal n)
index_ascii n few = digits_ascii (decimal n) (are_digits n (omega arith)).digits
