-- Lines of a header, and the values of fields.
use Rattle.std.proofs.Common.{◌≡◌, ◌≢◌, ℕ, zero, suc, ◌+◌, ◌<◌, true, List, [], ◌∷◌, ◌++◌, drop}
use Rattle.std.proofs.Common.{length, Some, None, refl, sym, ap, ◌∙◌, arith, inl, inr, length-append, append_assoc}
use Rattle.std.specs.List.{prefix_len, position_or_len}
use Rattle.std.specs.Str.{IsUtf8, IsCharBoundary}
use Rattle.std.proofs.lemmas.Bool.{cases_Bool}
use Rattle.std.proofs.lemmas.List.{append_cancel_left}
use Rattle.std.proofs.lemmas.List.Prefix.{front_rest}
use Rattle.std.proofs.lemmas.List.Sums.{prefix_len-le-length, prefix_len_passes}
use Rattle.std.proofs.lemmas.Str.{IsCharBoundary-start, IsCharBoundary-after_ascii}
use Rattle.po_header.specs.Tokens.{is_blank, behind_blanks}
use Rattle.po_header.specs.Fields.{is_line_end, lines, has_name, line_value, field_value}
use Rattle.po_header.proofs.TextLemmas.{begins_with, begins_not}
use Rattle.po_header.proofs.TokenLemmas.{blank_is}

-- ---- blanks

blank_ascii : (b : ℕ) → is_blank b ≡ true → b < 128
blank_ascii b e = elim (blank_is b e) [ inl space ↦ omega arith | inr tab ↦ omega arith ]

boundary_at : (n : ℕ) (text : List ℕ) → IsUtf8 text → n ≡ prefix_len is_blank text → IsCharBoundary text n
boundary_at zero text utf8 e = IsCharBoundary-start text utf8
boundary_at (suc n) text utf8 e =
    let lt : n < prefix_len is_blank text = omega arith in
    let le = prefix_len-le-length is_blank text in
    let m : n + 1 ≡ suc n = omega arith in
    rw m at (IsCharBoundary-after_ascii text n utf8 (omega arith)
    (blank_ascii _ (prefix_len_passes is_blank text n 0 lt)))

-- a text may be cut after its blanks
pub blanks_boundary : (text : List ℕ) → IsUtf8 text → IsCharBoundary text (prefix_len is_blank text)
blanks_boundary text utf8 = boundary_at (prefix_len is_blank text) text utf8 refl

-- ---- one line

pub line_value-other : (name line : List ℕ) → ((rest : List ℕ) → line ≢ name ++ rest) → line_value name line ≡ None
line_value-other name line other =
    rw (begins_not (name ++ (58 ∷ [])) line (λ rest e. other (58 ∷ rest) (e ∙ append_assoc name (58 ∷ []) rest))) refl

pub line_value-no_colon : (name line after : List ℕ) → line ≡ name ++ after → ((rest : List ℕ) → after ≢ 58 ∷ rest)
    → line_value name line ≡ None
line_value-no_colon name line after e other =
    rw (begins_not (name ++ (58 ∷ [])) line (λ rest f. other rest
    (append_cancel_left name after (58 ∷ rest) (sym e ∙ f ∙ append_assoc name (58 ∷ []) rest)))) refl

pub line_value-some : (name line after value : List ℕ) → line ≡ name ++ after → after ≡ 58 ∷ value
    → line_value name line ≡ Some (behind_blanks value)
line_value-some name line after value e f =
    let whole : line ≡ (name ++ (58 ∷ [])) ++ value = e ∙ ap (λ (t : List ℕ). name ++ t) f
    ∙ sym (append_assoc name (58 ∷ []) value) in
    let len : length (name ++ (58 ∷ [])) ≡ length name + 1 = length-append name (58 ∷ []) in
    let rest : drop (length name + 1) line ≡ value = ap (λ (n : ℕ). drop n line) (sym len)
    ∙ front_rest line (name ++ (58 ∷ [])) value whole in
    rw (begins_with (name ++ (58 ∷ [])) line value whole, rest) refl

-- ---- lines

pub field_value-first : (text name line later v : List ℕ) → lines text ≡ line ∷ lines later → Some v
    ≡ line_value name line → Some v ≡ field_value text name
field_value-first text name line later v e found = elim (cases_Bool (has_name name line)) [
  | inl has ↦ rw (e, has) (rw has at found)
  | inr other ↦ let none : Some v ≡ None = rw other at found in absurd (cc none)
]

pub field_value-next : (text name line later : List ℕ) → lines text ≡ line ∷ lines later → None ≡ line_value name line
    → field_value text name ≡ field_value later name
field_value-next text name line later e none = elim (cases_Bool (has_name name line)) [
  | inl has ↦ let found = rw has at none in absurd (cc found)
  | inr other ↦ rw (e, other) refl
]

pub field_value-last : (text name : List ℕ) → lines text ≡ text ∷ [] → line_value name text ≡ field_value text name
field_value-last text name e = elim (cases_Bool (has_name name text)) [
  | inl has ↦ rw (e, has) refl
  | inr other ↦ rw (e, other) refl
]

pub one_line : (text : List ℕ) → position_or_len is_line_end text ≡ length text → lines text ≡ text ∷ []
one_line [] e = refl
one_line (b ∷ text) e = elim (cases_Bool (is_line_end b)) [
  | inl end ↦ let zero_len : position_or_len is_line_end (b ∷ text) ≡ 0 = rw end refl in absurd (omega arith)
  | inr other ↦
      let next : position_or_len is_line_end (b ∷ text) ≡ 1 + position_or_len is_line_end text = rw other refl in
      let rest = one_line text (omega arith) in
      rw (other, rest) refl
]
