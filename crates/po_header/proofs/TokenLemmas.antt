-- Tokens at the front of a text, and where there is none.
use Rattle.std.proofs.Common.{◌≡◌, ◌≢◌, ℕ, ◌+◌, ◌-◌, ◌*◌, ◌<◌, ◌≤◌, ◌^◌, true, false, List, [], ◌∷◌, ◌++◌, take, drop}
use Rattle.std.proofs.Common.{length, get_or, Option, Some, None, refl, sym, ap, ◌∙◌, subst, arith, inl, inr, one-add}
use Rattle.std.specs.Prelude.{◌⊎◌, nat_lt}
use Rattle.std.specs.List.{take_while, prefix_len, fold}
use Rattle.std.specs.Char.{is_ascii_digit}
use Rattle.std.proofs.lemmas.Bool.{cases_eq, ne_eqb, cases_Bool, lt-ltb, ltb-true}
use Rattle.std.proofs.lemmas.Bool.Decides.{nat_tests}
use Rattle.std.proofs.lemmas.List.{take-append-drop, length-take, take_more}
use Rattle.std.proofs.lemmas.List.Sums.{take_while-cons, fold-append, prefix_len-le-length}
use Rattle.po_header.specs.declared.token.Token.{Token}
use Rattle.po_header.specs.declared.token.Token.TheVariants.{Number}
use Rattle.po_header.specs.Tokens.{Piece, Blank, Digits, Short, Long, PieceAt, piece_token}
use Rattle.po_header.specs.Tokens.{Begins, is_blank, short_symbol, long_symbol, long_at, below_limit}
use Rattle.byte_text.specs.Decimal.{decimal_value}
use Rattle.po_header.specs.ExprParsing.{IsStray, StopsBlanks}

-- ---- numbers

fold_grows : (digits : List ℕ) (a : ℕ) → a ≤ fold (λ n d. 10 * n + (d - 48)) a digits
fold_grows [] a = omega arith
fold_grows (d ∷ digits) a = omega (arith, fold_grows digits (10 * a + (d - 48)))

pub decimal_value-grows : (digits rest : List ℕ) → decimal_value digits ≤ decimal_value (digits ++ rest)
decimal_value-grows digits rest = rw (fold-append (λ (n d : ℕ). 10 * n + (d - 48)) 0 digits rest)
    (fold_grows rest (decimal_value digits))

pub over_limit : (m n : ℕ) → None ≡ below_limit m → m ≤ n → None ≡ below_limit n
over_limit m n none le = grind (arith, nat_tests)

pub limit_value : (m v : ℕ) → Some v ≡ below_limit m → v ≡ m
limit_value m v e = elim (cases_Bool (nat_lt m (2 ^ 64))) [
  | inl below ↦ let f : Some v ≡ Some m = rw below at e in cc f
  | inr above ↦ let f : Some v ≡ None = rw above at e in absurd (cc f)
]

-- a number below the limit is itself
limit_some : (m : ℕ) → m < 2 ^ 64 → below_limit m ≡ Some m
limit_some m lt = rw (lt-ltb m (2 ^ 64) lt) refl

limit_below : (m v : ℕ) → Some v ≡ below_limit m → m < 2 ^ 64
limit_below m v e = elim (cases_Bool (nat_lt m (2 ^ 64))) [
  | inl below ↦ ltb-true m (2 ^ 64) below
  | inr above ↦ let f : Some v ≡ None = rw above at e in absurd (cc f)
]

decimal_value-next : (digits : List ℕ) (i : ℕ) → i < length digits → decimal_value (take (i + 1) digits)
    ≡ 10 * decimal_value (take i digits) + (get_or digits i 0 - 48)
decimal_value-next digits i lt = rw (
  take_more digits i 0 lt,
  fold-append (λ (n d : ℕ). 10 * n + (d - 48)) 0
      (take i digits) (get_or digits i 0 ∷ []),
) refl

pub limit_next : (digits : List ℕ) (i value : ℕ) → Some value ≡ below_limit (decimal_value (take i digits))
    → i < length digits → below_limit (10 * value + (get_or digits i 0 - 48))
    ≡ below_limit (decimal_value (take (i + 1) digits))
limit_next digits i value e lt = rw (decimal_value-next digits i lt, limit_value _ _ e) refl

-- digits that begin with a number that is already too large
pub limit_passed : (digits : List ℕ) (i value : ℕ) → Some value ≡ below_limit (decimal_value (take i digits))
    → i < length digits → None ≡ below_limit (10 * value + (get_or digits i 0 - 48)) → None
    ≡ below_limit (decimal_value digits)
limit_passed digits i value e lt none =
    over_limit _ _ (none ∙ limit_next digits i value e lt)
    (subst (λ (t : List ℕ). decimal_value (take (i + 1) digits) ≤ decimal_value t) (take-append-drop (i + 1) digits)
    (decimal_value-grows (take (i + 1) digits) (drop (i + 1) digits)))

-- ---- the first byte

pub digit_low : (b : ℕ) → is_ascii_digit b ≡ true → 48 ≤ b
digit_low b e = grind (arith, nat_tests)

pub digit_high : (b : ℕ) → is_ascii_digit b ≡ true → b ≤ 57
digit_high b e = grind (arith, nat_tests)

pub digit_no_symbol : (b : ℕ) → is_ascii_digit b ≡ true → short_symbol (b ∷ []) ≡ None
digit_no_symbol b e =
    let low : 48 ≤ b = digit_low b e in
    let high : b ≤ 57 = digit_high b e in
    rw (
      ne_eqb b 110 (λ h. omega arith),
      ne_eqb b 40 (λ h. omega arith),
      ne_eqb b 41 (λ h. omega arith),
      ne_eqb b 63
          (λ h. omega arith),
      ne_eqb b 58 (λ h. omega arith),
      ne_eqb b 33 (λ h. omega arith),
      ne_eqb b 60
          (λ h. omega arith),
      ne_eqb b 62 (λ h. omega arith),
      ne_eqb b 43 (λ h. omega arith),
      ne_eqb b 45
          (λ h. omega arith),
      ne_eqb b 42 (λ h. omega arith),
      ne_eqb b 47 (λ h. omega arith),
      ne_eqb b 37
          (λ h. omega arith),
    ) refl

pub digit_no_long : (a b : ℕ) → is_ascii_digit a ≡ true → long_symbol (a ∷ b ∷ []) ≡ None
digit_no_long a b e =
    let low : 48 ≤ a = digit_low a e in
    let high : a ≤ 57 = digit_high a e in
    rw (
      ne_eqb a 124 (λ h. omega arith),
      ne_eqb a 38 (λ h. omega arith),
      ne_eqb a 61 (λ h. omega arith),
      ne_eqb a 33
          (λ h. omega arith),
      ne_eqb a 60 (λ h. omega arith),
      ne_eqb a 62 (λ h. omega arith),
    ) refl

pub digit_no_blank : (b : ℕ) → is_ascii_digit b ≡ true → is_blank b ≡ false
digit_no_blank b e =
    let low : 48 ≤ b = digit_low b e in
    let high : b ≤ 57 = digit_high b e in
    rw (ne_eqb b 32 (λ h. omega arith), ne_eqb b 9 (λ h. omega arith)) refl

blank_no_digit : (b : ℕ) → is_blank b ≡ true → is_ascii_digit b ≡ false
blank_no_digit b e = elim (cases_Bool (is_ascii_digit b)) [
  | inl digit ↦ let none = digit_no_blank b digit in absurd (cc (e, none))
  | inr other ↦ other
]

pub blank_is : (b : ℕ) → is_blank b ≡ true → (b ≡ 32) ⊎ (b ≡ 9)
blank_is b e = elim (cases_eq b 32) [
  | inl space ↦ inl space
  | inr other ↦ elim (cases_eq b 9) [
    | inl tab ↦ inr tab
    | inr none ↦ let f : is_blank b ≡ false = rw (ne_eqb b 32 other, ne_eqb b 9 none) refl in absurd (cc (e, f))
  ]
]

-- the first byte of some digits
pub first_digit : (text : List ℕ) (b : ℕ) (more : List ℕ) → 0 < prefix_len is_ascii_digit text → text ≡ b ∷ more
    → is_ascii_digit b ≡ true
first_digit text b more some e = elim (cases_Bool (is_ascii_digit b)) [
  | inl digit ↦ digit
  | inr other ↦ let none : prefix_len is_ascii_digit text ≡ 0 = rw (e, other) refl in absurd (omega arith)
]

no_symbol : (token : Token) (o : Option Token) → o ≡ None → o ≡ Some token → ⊥
no_symbol token o e f = absurd (cc (e, f))

-- ---- where no piece begins

pub large_numeral : (text : List ℕ) → 0 < prefix_len is_ascii_digit text → None
    ≡ below_limit (decimal_value (take_while is_ascii_digit text)) → IsStray text
large_numeral text some large (Blank b) rest p = let digit = first_digit text b rest some p.0 in let none =
    digit_no_blank b digit in let e = p.1 in absurd (cc (e, none))
large_numeral text some large (Digits digits) rest p =
    let same = ap (λ (ds : List ℕ). below_limit (decimal_value ds)) p.1 in
    let fits = limit_some (decimal_value digits) p.3 in
    absurd (cc (large, same, fits))
large_numeral text some large (Short b token) rest p = no_symbol token _
    (digit_no_symbol b (first_digit text b rest some p.0)) p.2
large_numeral text some large (Long a b token) rest p = no_symbol token _
    (digit_no_long a b (first_digit text a (b ∷ rest) some p.0)) p.1

pub nothing_stray : (text : List ℕ) → text ≡ [] → IsStray text
nothing_stray text e (Digits []) rest p = p.2 refl
nothing_stray text e _ rest p = let f = p.0 in absurd (cc (e, f))

pub byte_stray : (text : List ℕ) (b : ℕ) (more : List ℕ) → text ≡ b ∷ more → StopsBlanks text → long_at text ≡ None
    → is_ascii_digit b ≡ false → None ≡ short_symbol (b ∷ []) → IsStray text
byte_stray text b more e stops long digit short (Blank c) rest p =
    let f = p.0 in
    let same : b ≡ c = cc (e, f) in
    let blank : is_blank b ≡ true = ap is_blank same ∙ p.1 in
    let none : is_blank b ≡ false = rw e at stops in
    absurd (cc (blank, none))
byte_stray text b more e stops long digit short (Digits digits) rest p =
    let none : take_while is_ascii_digit text ≡ [] = rw (e, take_while-cons is_ascii_digit b more, digit) refl in
    absurd (p.2 (sym p.1 ∙ none))
byte_stray text b more e stops long digit short (Short c token) rest p =
    let f = p.0 in
    let same : b ≡ c = cc (e, f) in
    no_symbol token _ (ap (λ (x : ℕ). short_symbol (x ∷ [])) (sym same) ∙ sym short) p.2
byte_stray text b more e stops long digit short (Long a c token) rest p =
    no_symbol token _ (sym (ap long_at p.0) ∙ long) p.1

-- ---- where a piece begins

-- one piece, of one token
pub Begins-piece : (piece : Piece) (token : Token) (text rest : List ℕ) → PieceAt piece text rest → piece_token piece
    ≡ Some token → Begins (token ∷ []) text rest
Begins-piece piece token text rest at is = record {
  pieces = piece
      ∷ [];
  each = (rest, at, refl);
  tokens_are = rw is refl;
}

some_front : (n : ℕ) (text digits : List ℕ) → digits ≡ take n text → 0 < n → n ≤ length text → digits ≢ []
some_front n text digits front some le none =
    let few : length digits ≡ 0 = rw none refl in
    absurd (omega (arith, few, ap length front, length-take n text))

pub Begins-numeral : (text digits rest : List ℕ) (n value : ℕ) → digits ≡ take n text → rest ≡ drop n text → n
    ≡ prefix_len is_ascii_digit text → 0 < prefix_len is_ascii_digit text → Some value
    ≡ below_limit (decimal_value digits) → Begins (Number value ∷ []) text rest
Begins-numeral text digits rest n value front back is some fits =
    let run : take_while is_ascii_digit text ≡ digits = ap (λ (k : ℕ). take k text) (sym is) ∙ sym front in
    let same : value ≡ decimal_value digits = limit_value _ _ fits in
    let split : text ≡ digits ++ rest = sym (take-append-drop n text) ∙ rw (front, back) refl in
    let le = prefix_len-le-length is_ascii_digit text in
    Begins-piece (Digits digits) (Number value) text rest
    (split, run, some_front n text digits front (omega arith) (omega arith), limit_below _ _ fits)
    (ap (λ (v : ℕ). Some (Number v)) (sym same))

-- ---- blanks

Begins-blank : (b : ℕ) (text rest : List ℕ) → is_blank b ≡ true → Begins [] text rest → Begins [] (b ∷ text) rest
Begins-blank b text rest blank more = record {
  pieces = Blank b
      ∷ more.pieces;
  each = (text, (refl, blank), more.each);
  tokens_are = more.tokens_are;
}

pub Begins-blanks : (text : List ℕ) → Begins [] text (drop (prefix_len is_blank text) text)
Begins-blanks [] = record { pieces = []; each = refl; tokens_are = refl }
Begins-blanks (b ∷ text) = elim (cases_Bool (is_blank b)) [
  | inl blank ↦ rw (blank, one-add) (Begins-blank b text _ blank (Begins-blanks text))
  | inr other ↦ rw other (record { pieces = []; each = refl; tokens_are = refl })
]

pub StopsBlanks-blanks : (text : List ℕ) → StopsBlanks (drop (prefix_len is_blank text) text)
StopsBlanks-blanks [] = tt
StopsBlanks-blanks (b ∷ text) = elim (cases_Bool (is_blank b)) [
  | inl blank ↦ rw (blank, one-add) (StopsBlanks-blanks text)
  | inr other ↦ rw other other
]

pub Begins-short : (text rest : List ℕ) (b : ℕ) (token : Token) → text ≡ b ∷ rest → long_at text ≡ None → Some token
    ≡ short_symbol (b ∷ []) → Begins (token ∷ []) text rest
Begins-short text rest b token e long is = Begins-piece (Short b token) token text rest (e, long, sym is) refl

pub Begins-long : (text rest later : List ℕ) (a b : ℕ) (token : Token) → text ≡ a ∷ rest → rest ≡ b ∷ later → Some token
    ≡ long_symbol (a ∷ b ∷ []) → Begins (token ∷ []) text later
Begins-long text rest later a b token e f is = Begins-piece (Long a b token) token text later
    (e ∙ ap (λ (t : List ℕ). a ∷ t) f, sym is) refl
