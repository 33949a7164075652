-- Texts split at the first byte of a given value.
use Rattle.std.proofs.Common.{◌≡◌, ◌≢◌, ℕ, zero, suc, ◌+◌, ◌<◌, ◌≤◌, Bool, true, false, cond, not, eqb, ltb, List, []}
use Rattle.std.proofs.Common.{◌∷◌, length, take, drop, get_or, Option, Some, None, refl, sym, ap, ◌∙◌, subst, arith}
use Rattle.std.specs.Option.{unwrap_or}
use Rattle.std.specs.List.{AllByRecursion, position_or_len, before_first, after_first, count_by, slice_split}
use Rattle.std.specs.Str.{IsUtf8}
use Rattle.std.proofs.lemmas.Bool.{ltb-true, ltb-false, eqb-true, eq-eqb}
use Rattle.std.proofs.lemmas.List.{take_all, length-drop}
use Rattle.std.proofs.lemmas.List.Sums.{position_or_len_is, passes_at_first, split_at_first, sum_by-append, sum_by-cons}
use Rattle.std.proofs.lemmas.List.Splits.{slice_split_first, slice_split_none}
use Rattle.std.proofs.lemmas.Str.{IsUtf8-take, IsUtf8-drop, IsCharBoundary-before_ascii, IsCharBoundary-after_ascii}
use Rattle.bstr.specs.Find.{IsFirstByte, is_byte}
use Rattle.mo_image.specs.Entry.{LacksByte, IsText}
use Rattle.mo_image.specs.Map.{first_form}
use Rattle.mo_image.proofs.EntryParts.{lacks_at}

abbrev pub is : ℕ → ℕ → Bool
is byte b = eqb b byte

abbrev pub offset : ℕ → List ℕ → ℕ
offset byte text = position_or_len (is byte) text

abbrev one : Bool → ℕ
one b = cond b 1 0

count-cons : (byte x : ℕ) (xs : List ℕ) → count_by (is byte) (x ∷ xs) ≡ one (eqb x byte) + count_by (is byte) xs
count-cons byte x xs = sum_by-cons (λ y. cond (eqb y byte) 1 0) x xs

abbrev pub holds : ℕ → List ℕ → Bool
holds byte text = ltb (offset byte text) (length text)

not_true : (b : Bool) → (b ≡ true → ⊥) → b ≡ false
not_true true h = absurd (h refl)
not_true false h = refl

-- where a search finds the byte
pub offset_found : (byte : ℕ) (text : List ℕ) (r : Option ℕ) → IsFirstByte (is_byte byte) text r → offset byte text
    ≡ unwrap_or r (length text)
offset_found byte text None none = position_or_len_is (is byte) text (length text) 0 (omega arith)
    (λ i lt. not_true _ (none i (omega arith) lt)) (λ lt. absurd (omega arith))
offset_found byte text (Some k) some = position_or_len_is (is byte) text k 0 (omega (arith, some.0.high))
    (λ i lt. not_true _ (some.0.before i (omega arith) lt)) (λ lt. some.1)

-- the key of an original, by its first NUL
pub key_found : (text : List ℕ) (k : ℕ) → IsFirstByte (is_byte 0) text (Some k) → take k text ≡ before_first (is 0) text
key_found text k found = ap (λ n. take n text) (sym (offset_found 0 text (Some k) found))

pub key_whole : (text : List ℕ) → IsFirstByte (is_byte 0) text None → text ≡ before_first (is 0) text
key_whole text none =
    let at : offset 0 text ≡ length text = offset_found 0 text None none in
    sym (take_all (offset 0 text) text (omega (arith, at)))

-- ---- where the byte is, and where it isn't

byte_there : (byte : ℕ) (text : List ℕ) → offset byte text < length text → get_or text (offset byte text) 0 ≡ byte
byte_there byte text lt = eqb-true _ _ (passes_at_first (is byte) text 0 lt)

whole : (byte : ℕ) (text : List ℕ) → length text ≤ offset byte text → before_first (is byte) text ≡ text
whole byte text le = take_all (offset byte text) text le

other : (x byte : ℕ) → eqb x byte ≡ false → x ≢ byte
other x byte differ same = let yes : eqb x byte ≡ true = eq-eqb x byte same in absurd cc

front_step : (byte x : ℕ) (xs : List ℕ) (k : ℕ) → LacksByte byte (take k xs) → (b : Bool) → eqb x byte ≡ b
    → LacksByte byte (take (cond (not b) (1 + k) 0) (x ∷ xs))
front_step byte x xs k rest true e = tt
front_step byte x xs k rest false e =
    let P : ℕ → Type 0 = λ n. LacksByte byte (take n (x ∷ xs)) in
    let n : suc k ≡ 1 + k = omega arith in
    subst P n (other x byte e, rest)

pub front_lacks : (byte : ℕ) (text : List ℕ) → LacksByte byte (before_first (is byte) text)
front_lacks byte [] = tt
front_lacks byte (x ∷ xs) = front_step byte x xs (offset byte xs) (front_lacks byte xs) (eqb x byte) refl

pub absent : (byte : ℕ) (text : List ℕ) → holds byte text ≡ false → LacksByte byte text
absent byte text e = subst (LacksByte byte) (whole byte text (ltb-false _ _ e)) (front_lacks byte text)

none_step : (byte x : ℕ) (xs : List ℕ) → (count_by (is byte) xs ≡ 0 → LacksByte byte xs) → (b : Bool) → eqb x byte ≡ b
    → one b + count_by (is byte) xs ≡ 0 → LacksByte byte (x ∷ xs)
none_step byte x xs rest true e none = absurd (omega (arith, none))
none_step byte x xs rest false e none = (other x byte e, rest (omega (arith, none)))

pub none_counted : (byte : ℕ) (text : List ℕ) → count_by (is byte) text ≡ 0 → LacksByte byte text
none_counted byte [] none = tt
none_counted byte (x ∷ xs) none = none_step byte x xs (none_counted byte xs) (eqb x byte) refl
    (sym (count-cons byte x xs) ∙ none)

pub count_none : (byte : ℕ) (text : List ℕ) → LacksByte byte text → count_by (is byte) text ≡ 0
count_none byte [] lacks = refl
count_none byte (x ∷ xs) lacks =
    let differs : eqb x byte ≡ false = not_true (eqb x byte) (λ e. lacks.0 (eqb-true x byte e)) in
    omega (arith, count-cons byte x xs, ap one differs, count_none byte xs lacks.1)

-- the byte occurs at most once, and so not after its first offset
pub behind_lacks : (byte : ℕ) (text : List ℕ) → offset byte text < length text → count_by (is byte) text ≤ 1
    → LacksByte byte (after_first (is byte) text)
behind_lacks byte text lt once =
    let y : ℕ = get_or text (offset byte text) 0 in
    let counted : count_by (is byte) text ≡ count_by (is byte) (before_first (is byte) text) + count_by (is byte)
    (y ∷ after_first (is byte) text) =
    ap (count_by (is byte)) (split_at_first (is byte) text 0 lt)
    ∙ sum_by-append (λ x. cond (eqb x byte) 1 0) (before_first (is byte) text) (y ∷ after_first (is byte) text) in
    let it : one (eqb y byte) ≡ 1 = ap one (passes_at_first (is byte) text 0 lt) in
    none_counted byte (after_first (is byte) text) (omega (
      arith,
      counted,
      count-cons byte y
          (after_first (is byte) text),
      it,
      once,
    ))

-- how often a byte that was found occurs in a text
pub count_absent : (byte : ℕ) (text : List ℕ) → IsFirstByte (is_byte byte) text None → count_by (is byte) text ≡ 0
count_absent byte text none =
    let at : offset byte text ≡ length text = offset_found byte text None none in
    count_none byte text (subst (LacksByte byte) (whole byte text (omega (arith, at))) (front_lacks byte text))

pub count_past : (byte : ℕ) (text : List ℕ) (k : ℕ) → IsFirstByte (is_byte byte) text (Some k) → count_by (is byte) text
    ≡ 1 + count_by (is byte) (drop (k + 1) text)
count_past byte text k found =
    let at : offset byte text ≡ k = offset_found byte text (Some k) found in
    let lt : offset byte text < length text = omega (arith, at, found.0.high) in
    let y : ℕ = get_or text (offset byte text) 0 in
    let counted : count_by (is byte) text ≡ count_by (is byte) (before_first (is byte) text) + count_by (is byte)
    (y ∷ after_first (is byte) text) =
    ap (count_by (is byte)) (split_at_first (is byte) text 0 lt)
    ∙ sum_by-append (λ x. cond (eqb x byte) 1 0) (before_first (is byte) text) (y ∷ after_first (is byte) text) in
    let it : one (eqb y byte) ≡ 1 = ap one (passes_at_first (is byte) text 0 lt) in
    let none : count_by (is byte) (before_first (is byte) text)
    ≡ 0 = count_none byte (before_first (is byte) text) (front_lacks byte text) in
    let rest : count_by (is byte) (after_first (is byte) text)
    ≡ count_by (is byte) (drop (k + 1) text) = ap (λ (n : ℕ). count_by (is byte) (drop (n + 1) text)) at in
    omega (arith, counted, count-cons byte y (after_first (is byte) text), it, none, rest)

pub LacksByte-take : (byte n : ℕ) (text : List ℕ) → LacksByte byte text → LacksByte byte (take n text)
LacksByte-take byte zero text lacks = tt
LacksByte-take byte (suc n) [] lacks = tt
LacksByte-take byte (suc n) (x ∷ xs) lacks = (lacks.0, LacksByte-take byte n xs lacks.1)

pub LacksByte-drop : (byte n : ℕ) (text : List ℕ) → LacksByte byte text → LacksByte byte (drop n text)
LacksByte-drop byte zero text lacks = lacks
LacksByte-drop byte (suc n) [] lacks = tt
LacksByte-drop byte (suc n) (x ∷ xs) lacks = LacksByte-drop byte n xs lacks.1

-- ---- the parts of UTF-8, split at an ASCII byte, are UTF-8

front_by : (byte : ℕ) (text : List ℕ) → byte < 128 → IsUtf8 text → (test : Bool) → holds byte text ≡ test
    → IsUtf8 (before_first (is byte) text)
front_by byte text ascii utf8 true e =
    let lt : offset byte text < length text = ltb-true _ _ e in
    IsUtf8-take text (offset byte text) utf8 (IsCharBoundary-before_ascii text (offset byte text) lt
    (omega (arith, byte_there byte text lt)))
front_by byte text ascii utf8 false e = subst IsUtf8 (sym (whole byte text (ltb-false _ _ e))) utf8

pub front_utf8 : (byte : ℕ) (text : List ℕ) → byte < 128 → IsUtf8 text → IsUtf8 (before_first (is byte) text)
front_utf8 byte text ascii utf8 = front_by byte text ascii utf8 (holds byte text) refl

pub behind_utf8 : (byte : ℕ) (text : List ℕ) → byte < 128 → IsUtf8 text → offset byte text < length text
    → IsUtf8 (after_first (is byte) text)
behind_utf8 byte text ascii utf8 lt =
    IsUtf8-drop text (offset byte text + 1) utf8 (IsCharBoundary-after_ascii text (offset byte text) utf8 lt
    (omega (arith, byte_there byte text lt)))

-- ---- the forms of a translation

one_part : (text : List ℕ) → holds 0 text ≡ false → slice_split (is 0) text ≡ text ∷ []
one_part text e = slice_split_none (is 0) text (λ k d lt. lacks_at 0 text k d (absent 0 text e) lt)

first_by : (text : List ℕ) (test : Bool) → holds 0 text ≡ test → first_form (slice_split (is 0) text)
    ≡ before_first (is 0) text
first_by text true e = ap first_form (slice_split_first (is 0) text 0 (ltb-true _ _ e))
first_by text false e = ap first_form (one_part text e) ∙ sym (whole 0 text (ltb-false _ _ e))

pub first_form_is : (text : List ℕ) → first_form (slice_split (is 0) text) ≡ before_first (is 0) text
first_form_is text = first_by text (holds 0 text) refl

parts_by : (n : ℕ) (text : List ℕ) → length text ≤ n → IsUtf8 text
    → ((rest : List ℕ) → length rest < n → IsUtf8 rest → AllByRecursion IsText (slice_split (is 0) rest))
    → (test : Bool) → holds 0 text ≡ test → AllByRecursion IsText (slice_split (is 0) text)
parts_by n text short utf8 more true e =
    let lt : offset 0 text < length text = ltb-true _ _ e in
    let first : IsText (before_first (is 0) text) = record {
      utf8 = front_utf8 0 text (omega arith) utf8;
      no_nul =
          front_lacks 0 text;
    } in
    subst (AllByRecursion IsText) (sym (slice_split_first (is 0) text 0 lt)) (
      first,
      more (after_first (is 0) text) (omega (arith, length-drop (offset 0 text + 1) text, lt, short))
          (behind_utf8 0 text (omega arith) utf8 lt),
    )
parts_by n text short utf8 more false e =
    let only : IsText text = record { utf8 = utf8; no_nul = absent 0 text e } in
    subst (AllByRecursion IsText) (sym (one_part text e)) (only, tt)

parts_within : (n : ℕ) (text : List ℕ) → length text ≤ n → IsUtf8 text → AllByRecursion IsText (slice_split (is 0) text)
parts_within zero text short utf8 = parts_by 0 text short utf8 (λ rest lt u. absurd (omega (arith, lt))) (holds 0 text)
    refl
parts_within (suc n) text short utf8 = parts_by (suc n) text short utf8
    (λ rest lt u. parts_within n rest (omega (arith, lt)) u) (holds 0 text) refl

pub parts_are_texts : (text : List ℕ) → IsUtf8 text → AllByRecursion IsText (slice_split (is 0) text)
parts_are_texts text utf8 = parts_within (length text) text (omega arith) utf8
