-- The rows of two tables as a list: a test of the list is a test of the tables.
use Rattle.mo_tables.proofs.Kit.{◌≡◌, ◌↔◌, ℕ, zero, suc, ◌+◌, ◌-◌, ◌*◌, ◌<◌, List, [], ◌∷◌, length, take, drop, get_or}
use Rattle.mo_tables.proofs.Kit.{refl, sym, ap, ◌∙◌, subst, arith, inl, inr, All, nat_cmp, slice_cmp, cases_lt}
use Rattle.mo_tables.proofs.Kit.{get_or-drop, length-drop, Row, word_at, string_at, table_at, before_nul, HasNul}
use Rattle.mo_tables.proofs.Kit.{StringLies, rows, text_in, RowLies, HasTexts, HasForms, ClaimHolds}
use Rattle.std.proofs.lemmas.List.{get_or_append_left, get_or_push, length_push}
use Rattle.std.proofs.lemmas.List.Elements.{All-nil, All-push}
use Rattle.mo_tables.specs.MoTables.{TableLies, AllHaveNul, KeysRise, IsOriginalText, IsTranslationText, HasLawfulForms}
use Rattle.mo_tables.specs.MoTables.{AreOriginalTexts, AreTranslationTexts, HaveLawfulForms}
use Rattle.mo_tables.specs.Rows.{first_elements, row_at, span_at}
use Rattle.mo_tables.specs.Claims.{key_from, claim_at, claims_to, original_of, empty_row, ClaimLies}
use Rattle.mo_tables.proofs.KeyOrder.{key_with_nul}

-- ---- the first elements of a sequence

pub length-listed : {X : Type 0} (f : ℕ → X) (n : ℕ) → length (first_elements f n) ≡ n
length-listed f zero = refl
length-listed f (suc n) = omega (arith, length_push (first_elements f n) (f n), length-listed f n)

pub listed_at : {X : Type 0} (f : ℕ → X) (n i : ℕ) (d : X) → i < n → get_or (first_elements f n) i d ≡ f i
listed_at f zero i d lt = absurd (omega (arith, lt))
listed_at f (suc n) i d lt = elim (cases_lt i n) [
  | inl less ↦ get_or_append_left (first_elements f n) (f n ∷ []) d i (omega (arith, less, length-listed f n))
      ∙ listed_at f n i d less
  | inr ge ↦
      let e : n ≡ i = omega (arith, ge, lt) in
      get_or_push (first_elements f n) (f n) d i (length-listed f n ∙ e) ∙ ap f e
]

pub all_of : {X : Type 0} (P : X → Type 0) (f : ℕ → X) (n : ℕ) → ((i : ℕ) → i < n → P (f i))
    → All P (first_elements f n)
all_of P f zero each = All-nil P
all_of P f (suc n) each = All-push P (first_elements f n) (f n) (all_of P f n (λ i lt. each i (omega (arith, lt))))
    (each n (omega arith))

pub each_of : {X : Type 0} (P : X → Type 0) (f : ℕ → X) (n : ℕ) → All P (first_elements f n) → (i : ℕ) → i < n → P (f i)
each_of P f n all i lt = subst P (listed_at f n i (f i) lt) (all i (f i) (omega (arith, lt, length-listed f n)))

-- ---- the strings

module _ (number : ℕ → List ℕ → ℕ) (bytes : List ℕ) where
  pub text_is : (offset : ℕ) → text_in bytes (span_at number bytes offset) ≡ string_at number bytes offset
  text_is offset =
      let start = word_at number bytes (offset + 4) in
      let n : (start + word_at number bytes offset) - start ≡ word_at number bytes offset = omega arith in
      ap (λ k. take k (drop start bytes)) n

  abbrev row_of : ℕ → ℕ → ℕ → Row
  row_of o t i = row_at number bytes (o + 8 * i) (t + 8 * i)

  pub rows_lie : (o t n : ℕ) → TableLies (table_at number bytes o n) → TableLies (table_at number bytes t n)
      → All (RowLies bytes) (rows number bytes o t n)
  rows_lie o t n originals translations = all_of (RowLies bytes) (row_of o t) n
      (λ i lt. (originals.strings i lt, translations.strings i lt))

  pub texts_of_rows : (o t n : ℕ) → All (HasTexts bytes) (rows number bytes o t n)
      ↔ (AreOriginalTexts (table_at number bytes o n) × AreTranslationTexts (table_at number bytes t n))
  texts_of_rows o t n = (
    λ all. (
      record {
        each = λ i lt. subst IsOriginalText (text_is (o + 8 * i)) (each_of (HasTexts bytes)
            (row_of o t) n all i lt).0;
      },
      record {
        each = λ i lt. subst IsTranslationText (text_is (t + 8 * i)) (each_of (HasTexts bytes)
            (row_of o t) n all i lt).1;
      },
    ),
    λ both. all_of (HasTexts bytes) (row_of o t) n (λ i lt. (
      subst IsOriginalText (sym (text_is (o + 8 * i))) (both.0.each i lt),
      subst IsTranslationText (sym (text_is (t + 8 * i))) (both.1.each i lt),
    )),
  )

  pub forms_of_rows : (o t n : ℕ) → All (HasForms bytes) (rows number bytes o t n)
      ↔ HaveLawfulForms (table_at number bytes o n) (table_at number bytes t n)
  forms_of_rows o t n = (
    λ all. record {
      each = λ i lt. subst (λ l. HasLawfulForms l (string_at number bytes (t + 8 * i))) (text_is (o + 8 * i))
          (subst (HasLawfulForms (text_in bytes (span_at number bytes (o + 8 * i)))) (text_is (t + 8 * i))
          (each_of (HasForms bytes) (row_of o t) n all i lt));
    },
    λ forms. all_of (HasForms bytes) (row_of o t) n (λ i lt.
        subst (λ l. HasLawfulForms l (text_in bytes (span_at number bytes (t + 8 * i)))) (sym (text_is (o + 8 * i)))
        (subst (HasLawfulForms (string_at number bytes (o + 8 * i))) (sym (text_is (t + 8 * i))) (forms.each i lt))),
  )

  -- ---- the keys

  key_is : (offset : ℕ) → StringLies number bytes offset → HasNul number bytes offset
      → key_from bytes (word_at number bytes (offset + 4)) ≡ before_nul (string_at number bytes offset)
  key_is offset lies with_nul =
      let start = word_at number bytes (offset + 4) in
      key_with_nul (drop start bytes) (word_at number bytes offset) (omega (arith, lies, length-drop start bytes))
      (get_or-drop start bytes (word_at number bytes offset) 0 ∙ with_nul)

  start_is : (o t n i : ℕ) → i < n → (original_of (rows number bytes o t n) i).start
      ≡ word_at number bytes (o + 8 * i + 4)
  start_is o t n i lt = ap (λ (r : Row). r.original.start) (listed_at (row_of o t) n i empty_row lt)

  claim_is : (o t n : ℕ) → TableLies (table_at number bytes o n) → AllHaveNul (table_at number bytes o n) → (i : ℕ)
      → i + 1 < n
      → slice_cmp nat_cmp (key_from bytes (original_of (rows number bytes o t n) i).start)
      (key_from bytes (original_of (rows number bytes o t n) (i + 1)).start)
      ≡ slice_cmp nat_cmp (before_nul (string_at number bytes (o + 8 * i)))
      (before_nul (string_at number bytes (o + 8 * (i + 1))))
  claim_is o t n lies with_nul i lt =
      let less : i < n = omega (arith, lt) in
      let a = ap (key_from bytes) (start_is o t n i less) ∙ key_is (o + 8 * i) (lies.strings i less)
      (with_nul.each i less) in
      let b = ap (key_from bytes) (start_is o t n (i + 1) lt) ∙ key_is (o + 8 * (i + 1)) (lies.strings (i + 1) lt)
      (with_nul.each (i + 1) lt) in
      ap (λ k. slice_cmp nat_cmp k (key_from bytes (original_of (rows number bytes o t n) (i + 1)).start)) a
      ∙ ap (slice_cmp nat_cmp (before_nul (string_at number bytes (o + 8 * i)))) b

  pub claims_of_rows : (o t n : ℕ) → TableLies (table_at number bytes o n) → AllHaveNul (table_at number bytes o n)
      → All (ClaimHolds bytes) (claims_to (rows number bytes o t n) (length (rows number bytes o t n) - 1))
      ↔ KeysRise (table_at number bytes o n)
  claims_of_rows o t n lies with_nul =
      let rs : List Row = rows number bytes o t n in
      let long : length rs ≡ n = length-listed (row_of o t) n in (
        λ all. record {
          each = λ i lt. sym (claim_is o t n lies with_nul i lt)
              ∙ each_of (ClaimHolds bytes) (claim_at rs) (length rs - 1) all i (omega (arith, lt, long));
        },
        λ rise. all_of (ClaimHolds bytes) (claim_at rs) (length rs - 1)
            (λ i lt. claim_is o t n lies with_nul i (omega (arith, lt, long)) ∙ rise.each i (omega (arith, lt, long))),
      )

  pub claims_lie : (o t n : ℕ) → TableLies (table_at number bytes o n)
      → All (ClaimLies bytes)
      (claims_to (rows number bytes o t n) (length (rows number bytes o t n) - 1))
  claims_lie o t n lies =
      let rs : List Row = rows number bytes o t n in
      let long : length rs ≡ n = length-listed (row_of o t) n in
      all_of (ClaimLies bytes) (claim_at rs)
      (length rs - 1)
      (λ i lt. (
        omega (arith, start_is o t n i (omega (arith, lt, long)), lies.strings i (omega (arith, lt, long))),
        omega (arith, start_is o t n (i + 1) (omega (arith, lt, long)), lies.strings (i + 1) (omega (arith, lt, long))),
      ))
