-- What follows a field and its format is an end of the text.
use Rattle.std.proofs.Common.{◌≡◌, ℕ, ◌==◌, ◌-◌, ◌≤◌, Bool, List, [], ◌∷◌, ◌++◌, length, take, refl, sym, ap, subst}
use Rattle.std.proofs.Common.{◌∙◌, inl, inr, arith}
use Rattle.std.specs.Char.{is_ascii_digit}
use Rattle.std.proofs.lemmas.Bool.{cases_Bool}
use Rattle.std.proofs.lemmas.List.{length-append, take-append-le, take_all}
use Rattle.format_arguments.specs.Bytes.{behind, behind_one}
use Rattle.python_brace_format.specs.BraceFields.{dot, FieldAt}
use Rattle.python_brace_format.specs.BraceSpecifiers.{open_brace, close_brace, colon, is_align, is_sign, is_hash}
use Rattle.python_brace_format.specs.BraceSpecifiers.{is_type, behind_filled_align, behind_precision, behind_standard}
use Rattle.python_brace_format.specs.BraceSpecifiers.{NestedAt, SpecifierAt, FormatAt}
use Rattle.python_brace_format.proofs.FieldLemmas.{IsEnd, end_of_end, end_more, behind_end, field_end}

whole_end : (text : List ℕ) → IsEnd text text
whole_end text = ([], refl)

one_end : (test : ℕ → Bool) (text : List ℕ) → IsEnd text (behind_one test text)
one_end test [] = whole_end []
one_end test (b ∷ more) = elim (cases_Bool (test b)) [
  | inl e ↦ rw e (end_more b more more (whole_end more))
  | inr e ↦ rw e (whole_end (b ∷ more))
]

align_end : (text : List ℕ) → IsEnd text (behind_filled_align text)
align_end [] = whole_end []
align_end (first ∷ []) = one_end is_align (first ∷ [])
align_end (first ∷ (second ∷ more)) = elim (cases_Bool (is_align second)) [
  | inl e ↦ rw e (end_more first (second ∷ more) more (end_more second more more (whole_end more)))
  | inr e ↦ rw e (one_end is_align (first ∷ (second ∷ more)))
]

precision_end : (text : List ℕ) → IsEnd text (behind_precision text)
precision_end [] = whole_end []
precision_end (b ∷ more) = elim (cases_Bool (b == dot)) [
  | inl e ↦ rw e (end_more b more _ (behind_end is_ascii_digit more))
  | inr e ↦ rw e (whole_end (b ∷ more))
]

standard_end : (text : List ℕ) → IsEnd text (behind_standard text)
standard_end text =
    let aligned = behind_filled_align text in
    let signed = behind_one is_sign aligned in
    let hashed = behind_one is_hash signed in
    let wide = behind is_ascii_digit hashed in
    let precise = behind_precision wide in
    let to_signed = end_of_end text aligned signed (align_end text) (one_end is_sign aligned) in
    let to_hashed = end_of_end text signed hashed to_signed (one_end is_hash signed) in
    let to_wide = end_of_end text hashed wide to_hashed (behind_end is_ascii_digit hashed) in
    let to_precise = end_of_end text wide precise to_wide (precision_end wide) in
    end_of_end text precise (behind_one is_type precise) to_precise (one_end is_type precise)

nested_end : (text rest : List ℕ) → NestedAt text rest → IsEnd text rest
nested_end text rest (inl e) = (open_brace ∷ [], e)
nested_end text rest (inr x) =
    end_of_end text (close_brace ∷ rest) rest (field_end text (close_brace ∷ rest) x) (close_brace ∷ [], refl)

specifier_end : (text rest : List ℕ) → SpecifierAt text rest → IsEnd text rest
specifier_end text rest (inl (inner, e, x)) =
    end_of_end text inner rest (open_brace ∷ [], e) (nested_end inner rest x)
specifier_end text rest (inr (none, e)) = subst (λ (r : List ℕ). IsEnd text r) (sym e) (standard_end text)

format_end : (text rest : List ℕ) → FormatAt text rest → IsEnd text rest
format_end text rest (inl (after, e, x)) = end_of_end text after rest (colon ∷ [], e) (specifier_end after rest x)
format_end text rest (inr (none, e)) = subst (λ (r : List ℕ). IsEnd text r) (sym e) (whole_end text)

pub closing_end : (text behind_field closing : List ℕ) → FieldAt text behind_field → FormatAt behind_field closing
    → IsEnd text closing
closing_end text behind_field closing field format =
    end_of_end text behind_field closing (field_end text behind_field field) (format_end behind_field closing format)

-- the name is all before the closing brace
pub name_before : (text closing : List ℕ) → IsEnd text closing
    → text ≡ take (length text - length closing) text ++ closing
name_before text closing (front, e) =
    let long : length text - length closing ≡ length front =
    omega (arith, ap length e, length-append front closing) in
    let cut : take (length text - length closing) text ≡ front = ap (λ (n : ℕ). take n text) long
    ∙ ap (λ (t : List ℕ). take (length front) t) e ∙ take-append-le (length front) front closing (omega arith)
    ∙ take_all (length front) front (omega arith) in
    e ∙ ap (λ (t : List ℕ). t ++ closing) (sym cut)

pub closing_within : (text closing : List ℕ) → IsEnd text closing → length closing ≤ length text
closing_within text closing (front, e) = omega (arith, ap length e, length-append front closing)
