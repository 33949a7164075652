-- A text has at most one reading of each part of a directive, and what follows a part is no longer than the text.
use Rattle.std.proofs.Common.{◌≡◌, ℕ, zero, suc, ◌<◌, ◌≤◌, Bool, List, [], ◌∷◌, length, Option, None, Some, refl, sym}
use Rattle.std.proofs.Common.{ap, subst, ◌∙◌, ◌==◌, arith, inl, inr}
use Rattle.std.specs.List.{prefix_len}
use Rattle.std.specs.Char.{is_ascii_digit}
use Rattle.std.proofs.lemmas.List.{length-drop}
use Rattle.std.proofs.lemmas.Bool.{cases_Bool}
use Rattle.format_arguments.specs.Bytes.{behind, run}
use Rattle.std.specs.Option.{unwrap_or}
use Rattle.php_format.specs.PhpDirectives.{behind_size_of}
use Rattle.php_format.specs.PhpPieces.{quote, dot, NumberAt, is_flag, behind_any, behind_flag, Flags, FlagsAt}
use Rattle.php_format.specs.PhpPieces.{behind_digits, behind_precision, is_size, behind_size}

-- ---- numbers

pub number_one : (n m : Option ℕ) (text r s : List ℕ) → NumberAt n text r → NumberAt m text s → (n ≡ m) × (r ≡ s)
number_one None None text r s (b, e) (c, f) = (refl, e ∙ sym f)
number_one None (Some m) text r s (b, e) (f, g, h) = absurd (b s f)
number_one (Some n) None text r s (e, g, h) (b, f) = absurd (b r e)
number_one (Some n) (Some m) text r s (e, g, h) (f, i, j) = (ap (λ (k : ℕ). Some k) (g ∙ sym i), cc (e, f))

behind_within : (test : ℕ → Bool) (text : List ℕ) → length (behind test text) ≤ length text
behind_within test text = omega (arith, length-drop (prefix_len test text) text)

pub number_within : (n : Option ℕ) (text rest : List ℕ) → NumberAt n text rest → length rest ≤ length text
number_within None text rest (b, e) = omega (arith, ap length e)
number_within (Some n) text rest (e, f, g) = omega (arith, ap length e, behind_within is_ascii_digit text)

-- ---- flags

any_shorter : (b : ℕ) (more rest : List ℕ) → Some rest ≡ behind_any more → length rest < length (b ∷ more)
any_shorter b [] rest e = absurd (cc e)
any_shorter b (c ∷ more) rest e =
    let same : rest ≡ more = cc e in
    omega (arith, ap length same)

pub flag_shorter : (text rest : List ℕ) → Some rest ≡ behind_flag text → length rest < length text
flag_shorter [] rest e = absurd (cc e)
flag_shorter (b ∷ more) rest e = elim (cases_Bool (b == quote)) [
  | inl quoted ↦ any_shorter b more rest (rw quoted at e)
  | inr other ↦ elim (cases_Bool (is_flag b)) [
    | inl flag ↦
        let same : rest ≡ more = cc (rw (other, flag) at e) in
        omega (arith, ap length same)
    | inr none ↦ absurd (cc (rw (other, none) at e))
  ]
]

flags_within : (n : ℕ) (text rest : List ℕ) → Flags n text rest → length rest ≤ length text
flags_within zero text rest e = omega (arith, ap length e)
flags_within (suc n) text rest (after, e, more) =
    omega (arith, flag_shorter text after (sym e), flags_within n after rest more)

pub all_flags_within : (text rest : List ℕ) → FlagsAt text rest → length rest ≤ length text
all_flags_within text rest (n, flags, none) = flags_within n text rest flags

one_end : (n m : ℕ) (text rest other : List ℕ) → Flags n text rest → Flags m text other
    → behind_flag rest ≡ None → behind_flag other ≡ None → rest ≡ other
one_end zero zero text rest other e f g h = sym e ∙ f
one_end zero (suc m) text rest other e (after, f, more) g h = absurd (cc (e, f, g))
one_end (suc n) zero text rest other (after, e, more) f g h = absurd (cc (e, f, h))
one_end (suc n) (suc m) text rest other (after, e, more) (next, f, less) g h =
    let same : after ≡ next = cc (e, f) in
    one_end n m next rest other (subst (λ (t : List ℕ). Flags n t rest) same more) less g h

pub flags_one : (text rest other : List ℕ) → FlagsAt text rest → FlagsAt text other → rest ≡ other
flags_one text rest other (n, flags, none) (m, more, also) = one_end n m text rest other flags more none also

-- one flag more was read
pub flags_more : (n : ℕ) (text rest after : List ℕ) → Flags n text rest → behind_flag rest ≡ Some after
    → Flags (suc n) text after
flags_more zero text rest after e f = (after, ap behind_flag e ∙ f, refl)
flags_more (suc n) text rest after (next, e, more) f = (next, e, flags_more n next rest after more f)

-- ---- width, precision and size

digits_within : (more : List ℕ) (rest : List ℕ) → behind_digits more ≡ Some rest → length rest ≤ length more
digits_within more rest e = elim (cases_Bool (length (run is_ascii_digit more) == 0)) [
  | inl none ↦ absurd (cc (rw none at e))
  | inr digits ↦
      let same : behind is_ascii_digit more ≡ rest = cc (rw digits at e) in
      omega (arith, ap length same, behind_within is_ascii_digit more)
]

fraction_within : (found : Option (List ℕ)) (more all : List ℕ) → behind_digits more ≡ found
    → length more ≤ length all → length (unwrap_or found all) ≤ length all
fraction_within None more all e le = omega arith
fraction_within (Some rest) more all e le = omega (arith, digits_within more rest e)

precision_within : (text : List ℕ) → length (behind_precision text) ≤ length text
precision_within [] = omega arith
precision_within (b ∷ more) = elim (cases_Bool (b == dot)) [
  | inl e ↦ rw e (fraction_within (behind_digits more) more (b ∷ more) refl (omega arith))
  | inr e ↦ rw e (omega arith)
]

one_within : (text : List ℕ) → length (behind_size text) ≤ length text
one_within [] = omega arith
one_within (b ∷ more) = elim (cases_Bool (is_size b)) [
  | inl e ↦ rw e (omega arith)
  | inr e ↦ rw e (omega arith)
]

pub size_within : (text : List ℕ) → length (behind_size_of text) ≤ length text
size_within text =
    let wide = behind is_ascii_digit text in
    omega (arith, behind_within is_ascii_digit text, precision_within wide, one_within (behind_precision wide))
