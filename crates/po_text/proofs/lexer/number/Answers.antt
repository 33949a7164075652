use Rattle.po_text.proofs.Kit.{◌≡◌, ℕ, ◌<◌, ◌≤◌, ◌^◌, true, false, inl, inr, List, get_or, take, length, refl, arith}
use Rattle.po_text.proofs.Kit.{ap, ◌∙◌, Some, ◌==◌, cases_eq, Number}
use Rattle.std.specs.Char.{is_ascii_digit}
use Rattle.std.specs.List.{list_all}
use Rattle.std.proofs.Math.Nat.{pow-le-pow_right}
use Rattle.std.proofs.lemmas.List.{take_all, get_or_default}
use Rattle.std.proofs.lemmas.List.Sums.{list_all-from_AllPass}
use Rattle.std.proofs.lemmas.Bool.{le-leb}
use Rattle.po_text.specs.Spelling.{number_of}
use Rattle.byte_text.specs.Decimal.{decimal_value}
use Rattle.po_text.proofs.lexer.number.Goals as goal

room : (v i n : ℕ) → v < 10 ^ i → i < n → n ≤ 9 → v < 100000000
room v i n small lt le =
    let le8 : i ≤ 8 = omega arith in
    let top : 10 ^ i ≤ 100000000 = pow-le-pow_right {n = 10} (omega arith) {i = i} {j = 8} le8 in
    omega (arith, small, top)

pub overflow_mul-value : goal.overflow_mul-value
overflow_mul-value c = omega (
  arith,
  room c.loop-digit.value c.loop-digit.digit-index (length c.args.word.now)
      c.loop-digit.invariant.small c.loop-digit-test.true c.if-word-gt9.false,
)

pub overflow_add-value : goal.overflow_add-value
overflow_add-value c = omega (
  arith,
  room c.loop-digit.value c.loop-digit.digit-index (length c.args.word.now)
      c.loop-digit.invariant.small c.loop-digit-test.true c.if-word-gt9.false,
)

some_bytes : (n : ℕ) → false ≡ (n == 0) → 1 ≤ n
some_bytes n e = elim (cases_eq n 0) [
  | inl z ↦ let t : (n == 0) ≡ true = rw z refl in absurd (cc (e, t))
  | inr some ↦ omega arith
]

is_number : (word : List ℕ) (value i : ℕ) → ((k : ℕ) → k < i → is_ascii_digit (get_or word k 0) ≡ true) → value
    ≡ decimal_value (take i word) → i ≡ length word → 1 ≤ length word → length word ≤ 9 → Some (Number value)
    ≡ number_of word
is_number word value i digits is end some few =
    let all : list_all is_ascii_digit word ≡ true = list_all-from_AllPass is_ascii_digit word
    (λ k d lt. rw (get_or_default word k d 0 lt) (digits k (omega arith))) in
    let whole : value ≡ decimal_value word = is ∙ ap decimal_value (take_all i word (omega arith)) in
    rw (all, le-leb 1 (length word) some, le-leb (length word) 9 few, whole) refl

pub returns : goal.returns
returns c bytes =
    is_number c.args.word.now c.loop-digit.value c.loop-digit.digit-index c.loop-digit.invariant.digits
    c.loop-digit.invariant.value (omega arith)
    (some_bytes (length c.args.word.now) c.if-is_empty.ensures) c.if-word-gt9.false
