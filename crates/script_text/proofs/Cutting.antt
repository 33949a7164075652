-- Where a list is cut: its pieces, and the parts of a line.
use Rattle.std.proofs.Common.{◌≡◌, ◌≢◌, ◌∙◌, refl, sym, ap, ℕ, suc, ◌+◌, ◌<◌, Bool, true, false, List, [], ◌∷◌, ◌++◌}
use Rattle.std.proofs.Common.{length, get_or, take, arith, append_assoc, length-append, length-take}
use Rattle.std.proofs.Math.Nat.{sub_self}
use Rattle.std.proofs.Math.Numerals.{one-add}
use Rattle.std.proofs.Math.Seq.{drop-append-add}
use Rattle.std.proofs.lemmas.List.{append-nil, get_or-append_right, get_or-take, take_all}
use Rattle.std.specs.List.{position_or_len, before_first, after_first}
use Rattle.std.proofs.lemmas.Bool.{eqb-true, eqb-false}
use Rattle.std.proofs.lemmas.List.Splits.{length-slice_split}
use Rattle.std.proofs.lemmas.List.Sums.{split_at_first, fails_before_first, passes_at_first}
use Rattle.std.specs.Str.{IsUtf8}
use Rattle.std.proofs.lemmas.Str.{IsUtf8-drop, IsUtf8-nil, IsCharBoundary-after_ascii}
use Rattle.devices.specs.Lines.{pieces, is_line_end}
use Rattle.devices.proofs.Ends.{one_line}
use Rattle.script_text.specs.LineFields.{is_tab, fields}
use Rattle.bstr.specs.Find.{is_byte}
use Rattle.byte_text.specs.Cut.{IsCut}
use Rattle.script_text.specs.Scanning.{IsFirstLine}

-- ---- pieces

-- the first piece ends at the first element that ends one
pub pieces-at : {X : Type 0} (p : X → Bool) (front : List X) (y : X) (rest : List X) (d : X)
    → ((k : ℕ) → k < length front → p (get_or front k d) ≡ false) → p y ≡ true → pieces p (front ++ y ∷ rest)
    ≡ (front ++ y ∷ []) ∷ pieces p rest
pieces-at p [] y rest d fails passes = rw passes refl
pieces-at p (x ∷ front) y rest d fails passes =
    let head : p x ≡ false = fails 0 (omega arith) in
    rw (head, pieces-at p front y rest d (λ k lt. fails (suc k) (omega arith)) passes) refl

pub before-at : {X : Type 0} (p : X → Bool) (front : List X) (y : X) (rest : List X) (d : X)
    → ((k : ℕ) → k < length front → p (get_or front k d) ≡ false) → p y ≡ true → before_first p (front ++ y ∷ rest)
    ≡ front
before-at p [] y rest d fails passes = rw passes refl
before-at p (x ∷ front) y rest d fails passes =
    let head : p x ≡ false = fails 0 (omega arith) in
    rw (head, one-add) (ap (λ zs. x ∷ zs) (before-at p front y rest d (λ k lt. fails (suc k) (omega arith)) passes))

-- what follows an ASCII byte of a text is a text
pub utf8_behind : (c : ℕ) (text front behind : List ℕ) → IsUtf8 text → text ≡ front ++ c ∷ behind → c < 128
    → IsUtf8 behind
utf8_behind c text front behind utf8 e small =
    let whole : IsUtf8 (front ++ c ∷ behind) = rw e at utf8 in
    let here : get_or (front ++ c ∷ behind) (length front) 0 ≡ c = rw sub_self at
    (get_or-append_right front (c ∷ behind) (length front) (length front) 0 refl (omega arith)) in
    rw (drop-append-add front (c ∷ behind) 1) at (IsUtf8-drop (front ++ c ∷ behind) (length front + 1) whole
    (IsCharBoundary-after_ascii (front ++ c ∷ behind) (length front) whole (simp length-append (omega arith))
    (rw here small)))

-- ---- bytes

-- the byte is between the two parts
pub cut_whole : {byte : ℕ} {text front behind : List ℕ} → IsCut byte text front behind → text ≡ front ++ byte ∷ behind
cut_whole {byte} {text} cut =
    let is : get_or text (position_or_len (is_byte byte) text) 0
    ≡ byte = eqb-true _ _ (passes_at_first (is_byte byte) text 0 cut.within) in
    rw (cut.front_is, cut.behind_is) (split_at_first (is_byte byte) text 0 cut.within
    ∙ ap (λ b. before_first (is_byte byte) text ++ b ∷ after_first (is_byte byte) text) is)

-- and the first part lacks it
pub cut_lacks : {byte : ℕ} {text front behind : List ℕ} → IsCut byte text front behind → (k : ℕ) → k < length front
    → get_or front k 0 ≢ byte
cut_lacks {byte} {text} cut k below =
    let n = position_or_len (is_byte byte) text in
    let lt : k < n = omega (arith, length-take n text, rw cut.front_is at below) in
    rw (cut.front_is, get_or-take n text k 0 lt) (eqb-false _ _ (fails_before_first (is_byte byte) text k 0 lt))

pub uncut_lacks : (byte : ℕ) (text : List ℕ) → position_or_len (is_byte byte) text ≡ length text → (k : ℕ)
    → k < length text → get_or text k 0 ≢ byte
uncut_lacks byte text none k below = eqb-false _ _ (fails_before_first (is_byte byte) text k 0 (omega arith))

-- ---- lines

first_line-at : {line : List ℕ} (y : ℕ) {rest : List ℕ} → IsUtf8 (line ++ y ∷ rest)
    → ((k : ℕ) → k < length line → is_line_end (get_or line k 0) ≡ false) → is_line_end y ≡ true
    → IsFirstLine (line ++ y ∷ rest) line rest
first_line-at {line} y {rest} utf8 fails ends = record {
  raw = line ++ y ∷ [];
  cut = pieces-at is_line_end line y rest 0 fails ends;
  said = before-at is_line_end line y [] 0 fails ends;
  whole = sym (append_assoc line (y ∷ []) rest);
  some = simp length-append (omega arith);
  utf8 = utf8_behind y (line ++ y ∷ rest) line rest utf8 refl (omega (arith, eqb-true y 10 ends));
}

-- a line that ends in LF
pub first_line : {text line rest : List ℕ} → IsUtf8 text → position_or_len is_line_end text < length text → line
    ≡ before_first is_line_end text → rest ≡ after_first is_line_end text → IsFirstLine text line rest
first_line {text} utf8 lt line_is rest_is =
    let n = position_or_len is_line_end text in
    let whole : text ≡ before_first is_line_end text ++ get_or text n 0
    ∷ after_first is_line_end text = split_at_first is_line_end text 0 lt in
    let fails : (k : ℕ) → k < length (take n text) → is_line_end (get_or (take n text) k 0)
    ≡ false = λ k below. let lt : k < n = omega (arith, length-take n text) in
    rw (get_or-take n text k 0 lt) (fails_before_first is_line_end text k 0 lt) in
    rw (line_is, rest_is) (rw (← whole) at (first_line-at (get_or text n 0) (rw whole at utf8) fails
    (passes_at_first is_line_end text 0 lt)))

-- a line that lacks it
pub last_line : (text : List ℕ) → text ≢ [] → position_or_len is_line_end text ≡ length text → IsFirstLine text text []
last_line [] some none = absurd (some refl)
last_line (b ∷ text) some none = record {
  raw = b ∷ text;
  cut = one_line (b ∷ text) (omega arith) (λ k lt. fails_before_first is_line_end (b ∷ text) k 0 (omega arith));
  said = take_all _ (b ∷ text) (omega arith);
  whole = sym (append-nil (b ∷ text));
  some = omega arith;
  utf8 = IsUtf8-nil;
}

-- ---- fields

pub some_field : (text : List ℕ) → fields text ≢ []
some_field text e = absurd (omega (arith, length-slice_split is_tab text, ap length e))
