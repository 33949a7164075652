-- Between the quotes of a string each byte is one unit.
use Rattle.std.proofs.Common.{◌≡◌, ℕ, ◌+◌, ◌/◌, ◌%◌, ◌<◌, ◌≤◌, Bool, true, false, List, [], ◌∷◌, ◌++◌}
use Rattle.std.proofs.Common.{None, Some, refl, ap, subst, arith, append_assoc, inl, inr, get_or, zero, suc}
use Rattle.std.specs.Prelude.{◌&&◌, not, ◌⊎◌}
use Rattle.std.specs.List.{AllByRecursion}
use Rattle.std.specs.Str.{IsUtf8}
use Rattle.std.proofs.lemmas.Bool.{cases_eq, ne_eqb, cases_Bool, le-leb, cases_lt, lt-ltb, le-ltb}
use Rattle.std.proofs.lemmas.Bool.Decides.{nat_tests}
use Rattle.std.proofs.lemmas.Nat.{div_below, div-add-mod', shr-shr}
use Rattle.std.proofs.lemmas.List.Sums.{take_while-cons}
use Rattle.std.proofs.lemmas.Str.{IsUtf8-from_ascii, IsUtf8-append, IsUtf8-nil, IsUtf8-encode, encode_ascii}
use Rattle.std.proofs.lemmas.List.Concat.{flat_map-append}
use Rattle.std.proofs.Math.Utf8.{encode, encodes, scalar, scalars, scalar_cases}
use Rattle.po_text.specs.Spelling.{StringUnit, Plain, Escape, Octal, UnitAt, UnitsAt, unit_value, is_plain}
use Rattle.po_text.specs.Spelling.{escaped_byte, is_octal, octal_run, octal_value}
use Rattle.po_text.proofs.UnitLemmas.{UnitsAt-nil, UnitsAt-cons}
use Rattle.po_writing.specs.Written.{letter_of, octal, is_printable, without_letter, written_byte, written_bytes}

-- ---- octal digits

octal_digit : (d : ℕ) → d < 8 → is_octal (48 + d) ≡ true
octal_digit d lt = rw (le-leb 48 (48 + d) (omega arith), le-leb (48 + d) 55 (omega arith)) refl

digits_run : (x y z : ℕ) (rest : List ℕ) → is_octal x ≡ true → is_octal y ≡ true → is_octal z ≡ true
    → octal_run (x ∷ y ∷ z ∷ rest) ≡ x ∷ y ∷ z ∷ []
unfolding octal_run
digits_run x y z rest a b c = rw (
  take_while-cons is_octal x (y ∷ z ∷ []),
  a,
  take_while-cons is_octal y (z ∷ []),
  b,
  take_while-cons is_octal z [],
  c,
) refl

record HasDigits (b : ℕ) : Type 0 where
  high : b / 64 < 8
  middle : b / 8 % 8 < 8
  low : b % 8 < 8
  value : octal_value (octal b) ≡ b

has_digits : (b : ℕ) → b < 256 → HasDigits b
has_digits b small = record {
  high = omega (arith, div_below b 64 8);
  middle = omega arith;
  low = omega arith;
  value = omega (arith, div-add-mod' b 8, div-add-mod' (b / 8) 8, shr-shr b 3 3);
}

octal_unit : (b : ℕ) (rest : List ℕ) → b < 256 → UnitAt (Octal (octal b)) (92 ∷ octal b ++ rest) rest
octal_unit b rest small =
    let d = has_digits b small in (
      refl,
      digits_run (48 + b / 64) (48 + b / 8 % 8) (48 + b % 8) rest (octal_digit (b / 64) d.high)
          (octal_digit (b / 8 % 8) d.middle) (octal_digit (b % 8) d.low),
      (λ none. absurd (cc none)),
      omega (arith, d.value),
    )

-- ---- one byte

-- a byte has a letter that stands for it, or it is plain
letter_cases : (b : ℕ) → ((c : ℕ) × (letter_of b ≡ Some c) × (escaped_byte c ≡ Some b) × (c < 128))
    ⊎ ((letter_of b ≡ None) × (is_plain b ≡ true))
letter_cases b = elim (cases_eq b 7) [
  | inl e ↦ rw e (inl (97, refl, refl, omega arith))
  | inr n7 ↦ elim (cases_eq b 8) [
    | inl e ↦ rw e (inl (98, refl, refl, omega arith))
    | inr n8 ↦ elim (cases_eq b 9) [
      | inl e ↦ rw e (inl (116, refl, refl, omega arith))
      | inr n9 ↦ elim (cases_eq b 10) [
        | inl e ↦ rw e (inl (110, refl, refl, omega arith))
        | inr n10 ↦ elim (cases_eq b 11) [
          | inl e ↦ rw e (inl (118, refl, refl, omega arith))
          | inr n11 ↦ elim (cases_eq b 12) [
            | inl e ↦ rw e (inl (102, refl, refl, omega arith))
            | inr n12 ↦ elim (cases_eq b 13) [
              | inl e ↦ rw e (inl (114, refl, refl, omega arith))
              | inr n13 ↦ elim (cases_eq b 34) [
                | inl e ↦ rw e (inl (34, refl, refl, omega arith))
                | inr n34 ↦ elim (cases_eq b 92) [
                  | inl e ↦ rw e (inl (92, refl, refl, omega arith))
                  | inr n92 ↦ inr (
                    rw (
                      ne_eqb b 7 n7,
                      ne_eqb b 8 n8,
                      ne_eqb b 9 n9,
                      ne_eqb b 10 n10,
                      ne_eqb b 11 n11,
                      ne_eqb b 12 n12,
                      ne_eqb b 13 n13,
                      ne_eqb b 34 n34,
                      ne_eqb b 92 n92,
                    ) refl,
                    rw (ne_eqb b 34 n34, ne_eqb b 92 n92, ne_eqb b 10 n10) refl,
                  )
                ]
              ]
            ]
          ]
        ]
      ]
    ]
  ]
]

-- the written byte begins with a unit that means it
abbrev IsUnit : List ℕ → ℕ → List ℕ → Type 0
IsUnit text b rest = (u : StringUnit) × UnitAt u text rest × (unit_value u ≡ b)

unlettered_unit : (escape : Bool) (b : ℕ) (rest : List ℕ) → b < 256 → is_plain b ≡ true
    → IsUnit (without_letter escape b ++ rest) b rest
unlettered_unit escape b rest small plain = elim (cases_Bool (escape && not (is_printable b))) [
  | inl bare ↦ rw bare (Octal (octal b), octal_unit b rest small, (has_digits b small).value)
  | inr kept ↦ rw kept (Plain b, (refl, plain), refl)
]

byte_unit : (escape : Bool) (b : ℕ) (rest : List ℕ) → b < 256 → IsUnit (written_byte escape b ++ rest) b rest
byte_unit escape b rest small = elim (letter_cases b) [
  | inl h ↦ let letter = h.1 in rw letter (Escape h.0 b, (refl, h.2), refl)
  | inr h ↦ let none = h.0 in rw none (unlettered_unit escape b rest small h.1)
]

abbrev pub AreBytes : List ℕ → Type 0
AreBytes text = AllByRecursion (λ b. b < 256) text

-- the written bytes are units with their values
pub written_units : (escape : Bool) (text rest : List ℕ) → AreBytes text
    → UnitsAt text (written_bytes escape text ++ rest) rest
written_units escape [] rest small = UnitsAt-nil rest
written_units escape (b ∷ text) rest small =
    let more = written_bytes escape text ++ rest in
    let h = byte_unit escape b more small.0 in
    let joined : UnitsAt (unit_value h.0 ∷ text) (written_byte escape b ++ more) rest = UnitsAt-cons h.0 text
    (written_byte escape b ++ more) more rest h.1 (written_units escape text rest small.1) in
    rw (append_assoc (written_byte escape b) (written_bytes escape text) rest)
    (subst (λ (v : ℕ). UnitsAt (v ∷ text) (written_byte escape b ++ more) rest) h.2 joined)

-- ---- UTF-8

abbrev pub AreAscii : List ℕ → Type 0
AreAscii text = AllByRecursion (λ b. b < 128) text

pub All-append : (P : ℕ → Type 0) (xs ys : List ℕ) → AllByRecursion P xs → AllByRecursion P ys
    → AllByRecursion P (xs ++ ys)
All-append P [] ys a b = b
All-append P (x ∷ xs) ys a b = (a.0, All-append P xs ys a.1 b)

ascii_at : (text : List ℕ) (i : ℕ) → AreAscii text → get_or text i 0 < 128
ascii_at [] i small = omega arith
ascii_at (b ∷ text) zero small = small.0
ascii_at (b ∷ text) (suc i) small = ascii_at text i small.1

pub utf8_from_ascii : (text : List ℕ) → AreAscii text → IsUtf8 text
utf8_from_ascii text small = IsUtf8-from_ascii text (λ i. ascii_at text i small)

ascii_unlettered : (escape : Bool) (b : ℕ) → b < 128 → AreAscii (without_letter escape b)
ascii_unlettered escape b small = elim (cases_Bool (escape && not (is_printable b))) [
  | inl bare ↦ rw bare (omega arith, (omega arith, (omega arith, (omega arith, tt))))
  | inr kept ↦ rw kept (small, tt)
]

ascii_byte : (escape : Bool) (b : ℕ) → b < 128 → AreAscii (written_byte escape b)
ascii_byte escape b small = elim (letter_cases b) [
  | inl h ↦ let letter = h.1 in rw letter (omega arith, (h.3, tt))
  | inr h ↦ let none = h.0 in rw none (ascii_unlettered escape b small)
]

printable_small : (b : ℕ) → is_printable b ≡ true → b < 128
printable_small b e = grind (arith, nat_tests)

ascii_escaped : (b : ℕ) → b < 256 → AreAscii (written_byte true b)
ascii_escaped b small = elim (letter_cases b) [
  | inl h ↦ let letter = h.1 in rw letter (omega arith, (h.3, tt))
  | inr h ↦ let none = h.0 in rw none (elim (cases_Bool (is_printable b)) [
    | inl shown ↦ rw shown (printable_small b shown, tt)
    | inr other ↦ rw other (omega arith, (omega arith, (omega arith, (omega arith, tt))))
  ])
]

all_escaped : (text : List ℕ) → AreBytes text → AreAscii (written_bytes true text)
all_escaped [] small = tt
all_escaped (b ∷ text) small = All-append (λ x. x < 128) (written_byte true b) (written_bytes true text)
    (ascii_escaped b small.0) (all_escaped text small.1)

-- ---- characters

abbrev IsHigh : ℕ → Type 0
IsHigh b = (128 ≤ b) × (b < 256)

below_limit : (c : ℕ) → scalar c ≡ true → c < 1114112
below_limit c ok = elim (scalar_cases c ok) [ inl low ↦ omega arith | inr high ↦ high.1 ]

-- a character above 127 has bytes above 127
high_bytes : (c : ℕ) → 128 ≤ c → c < 1114112 → AllByRecursion IsHigh (encode c)
unfolding encode
high_bytes c low limit = rw (le-ltb c 128 low) (elim (cases_lt c 2048) [
  | inl two ↦ rw (lt-ltb c 2048 two) ((omega arith, omega arith), ((omega arith, omega arith), tt))
  | inr more ↦ rw (le-ltb c 2048 more) (elim (cases_lt c 65536) [
    | inl three ↦ rw (lt-ltb c 65536 three) (
      (omega arith, omega arith),
      ((omega arith, omega arith), ((omega arith, omega arith), tt)),
    )
    | inr four ↦ rw (le-ltb c 65536 four) (
      (omega arith, omega arith),
      ((omega arith, omega arith), ((omega arith, omega arith), ((omega arith, omega arith), tt))),
    )
  ])
])

All-weaken : (P Q : ℕ → Type 0) (text : List ℕ) → ((b : ℕ) → P b → Q b) → AllByRecursion P text
    → AllByRecursion Q text
All-weaken P Q [] f all = tt
All-weaken P Q (b ∷ text) f all = (f b all.0, All-weaken P Q text f all.1)

char_bytes : (c : ℕ) → scalar c ≡ true → AreBytes (encode c)
char_bytes c ok = elim (cases_lt c 128) [
  | inl low ↦ rw (encode_ascii c low) (omega arith, tt)
  | inr high ↦ All-weaken IsHigh (λ b. b < 256) (encode c) (λ b h. h.1) (high_bytes c high (below_limit c ok))
]

and_true : (a b : Bool) → a && b ≡ true → (a ≡ true) × (b ≡ true)
and_true true b e = (refl, e)
and_true false b e = absurd (cc e)

chars_bytes : (cs : List ℕ) → scalars cs ≡ true → AreBytes (encodes cs)
chars_bytes [] ok = tt
chars_bytes (c ∷ cs) ok =
    let both = and_true (scalar c) (scalars cs) ok in
    All-append (λ b. b < 256) (encode c) (encodes cs) (char_bytes c both.0) (chars_bytes cs both.1)

pub bytes_of_utf8 : (text : List ℕ) → IsUtf8 text → AreBytes text
bytes_of_utf8 text u = subst AreBytes u.1.1 (chars_bytes u.0 u.1.0)

-- ---- what is written is UTF-8

high_none : (b : ℕ) → 128 ≤ b → letter_of b ≡ None
high_none b high = elim (letter_cases b) [
  | inl h ↦ absurd (no_letter b high h.0 h.1)
  | inr h ↦ h.0
]
  where
    no_letter : (b : ℕ) → 128 ≤ b → (c : ℕ) → letter_of b ≡ Some c → ⊥
    no_letter b high c e =
        let none : letter_of b ≡ None = rw (
          ne_eqb b 7 (λ e. omega arith),
          ne_eqb b 8 (λ e. omega arith),
          ne_eqb b 9 (λ e. omega arith),
          ne_eqb b 10 (λ e. omega arith),
          ne_eqb b 11 (λ e. omega arith),
          ne_eqb b 12 (λ e. omega arith),
          ne_eqb b 13 (λ e. omega arith),
          ne_eqb b 34 (λ e. omega arith),
          ne_eqb b 92 (λ e. omega arith),
        ) refl in
        absurd (cc (none, e))

high_written : (text : List ℕ) → AllByRecursion IsHigh text → written_bytes false text ≡ text
high_written [] high = refl
high_written (b ∷ text) high = rw (high_none b high.0.0) (ap (λ (t : List ℕ). b ∷ t) (high_written text high.1))

char_written : (c : ℕ) → scalar c ≡ true → IsUtf8 (written_bytes false (encode c))
char_written c ok = elim (cases_lt c 128) [
  | inl low ↦ rw (encode_ascii c low) (utf8_from_ascii (written_byte false c ++ [])
      (All-append (λ b. b < 128) (written_byte false c) [] (ascii_byte false c low) tt))
  | inr high ↦ rw (high_written (encode c) (high_bytes c high (below_limit c ok))) (IsUtf8-encode c ok)
]

chars_written : (cs : List ℕ) → scalars cs ≡ true → IsUtf8 (written_bytes false (encodes cs))
chars_written [] ok = IsUtf8-nil
chars_written (c ∷ cs) ok =
    let both = and_true (scalar c) (scalars cs) ok in
    rw (flat_map-append (written_byte false) (encode c) (encodes cs))
    (IsUtf8-append (written_bytes false (encode c)) (written_bytes false (encodes cs)) (char_written c both.0)
    (chars_written cs both.1))

pub written_utf8 : (escape : Bool) (text : List ℕ) → IsUtf8 text → IsUtf8 (written_bytes escape text)
written_utf8 true text u = utf8_from_ascii (written_bytes true text) (all_escaped text (bytes_of_utf8 text u))
written_utf8 false text u = subst (λ (t : List ℕ). IsUtf8 (written_bytes false t)) u.1.1 (chars_written u.0 u.1.0)
