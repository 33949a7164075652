-- The entries that the tables of a file name.
use Rattle.std.proofs.Common.{◌++◌, ◌-◌, append_assoc, ◌≡◌, Bool, true, false, cond, Option, Some, ℕ, zero, suc, ◌+◌}
use Rattle.std.proofs.Common.{◌*◌, ◌<◌, ◌≤◌, List, [], ◌∷◌, length, map, refl, sym, ap, ◌∙◌, subst, arith}
use Rattle.std.specs.Prelude.{option_map, IfOk, IfSome, OnOk, Result, Ok, Err}
use Rattle.std.specs.List.{AllByRecursion}
use Rattle.std.specs.Str.{bytes_eq}
use Rattle.std.specs.Ordering.{nat_cmp}
use Rattle.std.specs.declared.cmp.Ordering.TheVariants.{Less}
use Rattle.std.specs.Cmp.Lexicographic.{slice_cmp}
use Rattle.catalogue.specs.Entry.{Entry, key, original, translation, IsLawfulEntry}
use Rattle.catalogue.specs.Map.{Rises, first_form, entry_at, header_text, HasAcceptedCharset, IsLawful}
use Rattle.catalogue.specs.MoFile.{file, spelling}
use Rattle.mo_file.specs.Tables.{string_at, strings}
use Rattle.mo_file.specs.MoReading.{table_at, count, originals_start, translations_start, file_by, order, file_of}
use Rattle.mo_file.specs.MoReading.{before_nul, IsOriginalText, IsTranslationText, HasLawfulForms, HasLawfulHeader}
use Rattle.mo_file.specs.MoReading.{AreOriginalTexts, AreTranslationTexts, HaveLawfulForms, KeysRise, HaveLawfulHeaders}
use Rattle.mo_file.specs.MoReading.{Fits, PassesBelow, Mo, IsMoFile}
use Rattle.mo_file.specs.declared.fault.MoFault.{MoFault}
use Rattle.mo_file.specs.declared.fault.MoFault.TheVariants.{BadText, Forms, Order, Charset, Swollen}
use Rattle.mo_tables.proofs.Cuts.{first_form_is}
use Rattle.mo_file.specs.Pairs.{entry_of, paired_entries, entries_of_rows as named_rows, named_in}
use Rattle.mo_file.proofs.Entries.{key_is, original_is, translation_is, lawful_entry}
use Rattle.mo_tables.proofs.RowLemmas.{first_row, later_rows, strings_split}

-- ---- the header of a map

abbrev pub IsNoForeign : Entry → Type 0
IsNoForeign e = key e ≡ [] → HasAcceptedCharset (first_form e.forms)

empty : (k : List ℕ) → bytes_eq k [] ≡ true → k ≡ []
empty [] e = refl
empty (x ∷ xs) e = absurd cc

abbrev AcceptsText : Option Entry → Type 0
AcceptsText found = IfSome (option_map (λ e. first_form e.forms) found) HasAcceptedCharset

header_step : (e : Entry) (rest : Option Entry) → IsNoForeign e → AcceptsText rest → (b : Bool) → bytes_eq (key e) []
    ≡ b → AcceptsText (cond b (Some e) rest)
header_step e rest accepted others true is = accepted (empty (key e) is)
header_step e rest accepted others false is = others

pub header_accepted : (m : List Entry) → AllByRecursion IsNoForeign m → IfSome (header_text m) HasAcceptedCharset
header_accepted [] each = tt
header_accepted (e ∷ m) each = header_step e (entry_at m []) each.0 (header_accepted m each.1) (bytes_eq (key e) [])
    refl

module _ (number : ℕ → List ℕ → ℕ) (bytes : List ℕ) where
  abbrev at : ℕ → List ℕ
  at offset = string_at number bytes offset

  abbrev named : ℕ → ℕ → ℕ → List Entry
  named o t n = named_rows number bytes o t n

  pub length-named : (o t n : ℕ) → length (named o t n) ≡ n
  length-named o t zero = refl
  length-named o t (suc n) = ap suc (length-named (o + 8) (t + 8) n)

  pub originals_named : (o t n : ℕ) → map original (named o t n) ≡ strings number bytes o n
  originals_named o t zero = refl
  originals_named o t (suc n) =
      ap (λ (s : List ℕ). s ∷ map original (named (o + 8) (t + 8) n)) (original_is (at o) (at t))
      ∙ ap (λ (ss : List (List ℕ)). at o ∷ ss) (originals_named (o + 8) (t + 8) n)

  pub translations_named : (o t n : ℕ) → map translation (named o t n) ≡ strings number bytes t n
  translations_named o t zero = refl
  translations_named o t (suc n) =
      ap (λ (s : List ℕ). s ∷ map translation (named (o + 8) (t + 8) n)) (translation_is (at o) (at t))
      ∙ ap (λ (ss : List (List ℕ)). at t ∷ ss) (translations_named (o + 8) (t + 8) n)

  keys_named : (o t n : ℕ) → map key (named o t n) ≡ map before_nul (strings number bytes o n)
  keys_named o t zero = refl
  keys_named o t (suc n) =
      ap (λ (s : List ℕ). s ∷ map key (named (o + 8) (t + 8) n)) (key_is (at o) (at t))
      ∙ ap (λ (ss : List (List ℕ)). before_nul (at o) ∷ ss) (keys_named (o + 8) (t + 8) n)

  -- ---- each entry is lawful

  abbrev IsPair : ℕ → ℕ → Type 0
  IsPair a b = IsOriginalText (at a) × IsTranslationText (at b) × HasLawfulForms (at a) (at b)

  lawful_from : (o t n : ℕ) → ((i : ℕ) → i < n → IsPair (o + 8 * i) (t + 8 * i))
      → AllByRecursion IsLawfulEntry (named o t n)
  lawful_from o t zero each = tt
  lawful_from o t (suc n) each =
      let first : IsPair o t = first_row IsPair o t n each in
      (lawful_entry (at o) (at t) first.0 first.1 first.2, lawful_from (o + 8) (t + 8) n (later_rows IsPair o t n each))

  pub lawful_named : (o t n : ℕ) → AreOriginalTexts (table_at number bytes o n)
      → AreTranslationTexts (table_at number bytes t n) → HaveLawfulForms (table_at number bytes o n)
      (table_at number bytes t n) → AllByRecursion IsLawfulEntry (named o t n)
  lawful_named o t n os ts forms = lawful_from o t n (λ i lt. (os.each i lt, ts.each i lt, forms.each i lt))

  -- ---- the keys rise

  abbrev IsStep : ℕ → ℕ → Type 0
  IsStep a b = slice_cmp nat_cmp (before_nul (at a)) (before_nul (at b)) ≡ Less

  rises_from : (o n : ℕ) → ((i : ℕ) → i < n → IsStep (o + 8 * i) (o + 8 + 8 * i))
      → Rises (map before_nul (strings number bytes o (suc n)))
  rises_from o zero each = tt
  rises_from o (suc n) each = (
    first_row IsStep o (o + 8) n each,
    rises_from (o + 8) n
        (later_rows IsStep o (o + 8) n each),
  )

  rises_all : (o n : ℕ) → KeysRise (table_at number bytes o n) → Rises (map before_nul (strings number bytes o n))
  rises_all o zero rise = tt
  rises_all o (suc n) rise =
      rises_from o n (λ i lt. let next : o + 8 * (i + 1) ≡ o + 8 + 8 * i = omega arith in subst
      (λ b. IsStep (o + 8 * i) b) next (rise.each i (omega (arith, lt))))

  pub rises_named : (o t n : ℕ) → KeysRise (table_at number bytes o n) → Rises (map key (named o t n))
  rises_named o t n rise = subst Rises (sym (keys_named o t n)) (rises_all o n rise)

  -- ---- the header's charset is accepted

  abbrev IsHeader : ℕ → ℕ → Type 0
  IsHeader a b = HasLawfulHeader (at a) (at b)

  headers_from : (o t n : ℕ) → ((i : ℕ) → i < n → IsHeader (o + 8 * i) (t + 8 * i))
      → AllByRecursion IsNoForeign (named o t n)
  headers_from o t zero each = tt
  headers_from o t (suc n) each =
      let first : IsHeader o t = first_row IsHeader o t n each in (
        λ e. subst HasAcceptedCharset (sym (first_form_is (at t))) (first.accepted (sym (key_is (at o) (at t)) ∙ e)),
        headers_from (o + 8) (t + 8) n (later_rows IsHeader o t n each),
      )

  pub headers_named : (o t n : ℕ) → HaveLawfulHeaders (table_at number bytes o n) (table_at number bytes t n)
      → AllByRecursion IsNoForeign (named o t n)
  headers_named o t n headers = headers_from o t n headers.each

  -- ---- the file of the map

  pub spelling_named : (o t n : ℕ) → spelling (named o t n) ≡ file n (strings number bytes o n)
      (strings number bytes t n)
  unfolding spelling
  spelling_named o t n =
      ap (λ (k : ℕ). file k (map original (named o t n)) (map translation (named o t n))) (length-named o t n)
      ∙ ap (λ (os : List (List ℕ)). file n os (map translation (named o t n))) (originals_named o t n)
      ∙ ap (file n (strings number bytes o n)) (translations_named o t n)

  pub fits_named : (o t n : ℕ) → Fits (table_at number bytes o n) (table_at number bytes t n)
      → length (spelling (named o t n)) ≤ 268435456
  fits_named o t n fits = omega (arith, ap length (spelling_named o t n), fits.short)

-- ---- the map of a file that no refusal applies to

pub lawful_map : (number : ℕ → List ℕ → ℕ) (bytes : List ℕ) → PassesBelow (file_by number bytes) 12
    → IsLawful (named_in number bytes)
lawful_map number bytes passed =
    let o : ℕ = originals_start number bytes in
    let t : ℕ = translations_start number bytes in
    let n : ℕ = count number bytes in
    let texts = passed BadText (omega arith) in
    record {
      rises = rises_named number bytes o t n (passed Order (omega arith));
      each = lawful_named number bytes o t n texts.0 texts.1 (passed Forms (omega arith));
      charset = header_accepted (named_in number bytes) (headers_named number bytes o t n
          (passed Charset (omega arith)));
      fits = fits_named number bytes o t n (passed Swollen (omega arith));
    }

pub is_mo : (bytes : List ℕ) → PassesBelow (file_of bytes) 12 → Mo bytes (named_in (order bytes) bytes)
is_mo bytes passed =
    let number = order bytes in
    record {
      lawful = lawful_map number bytes passed;
      passed = passed;
      originals = originals_named number bytes (originals_start number bytes) (translations_start number bytes)
          (count number bytes);
      translations = translations_named number bytes (originals_start number bytes) (translations_start number bytes)
          (count number bytes);
    }

-- what has passed all tests
pub checked : (bytes : List ℕ) (r : Result (Unit {0}) MoFault) → OnOk r (PassesBelow (file_of bytes) 12)
    → OnOk r (IsMoFile bytes)
checked bytes (Ok x) passed = (named_in (order bytes) bytes, is_mo bytes passed)
checked bytes (Err f) passed = tt

-- what is read in the byte order of the magic number
pub read_in_order : {E : Type 0} (bytes : List ℕ) (number : ℕ → List ℕ → ℕ) (r : Result (List Entry) E)
    → order bytes ≡ number → PassesBelow (file_of bytes) 12 → IfOk r (λ c. c ≡ named_in number bytes)
    → IfOk r (Mo bytes)
read_in_order bytes number (Ok c) is passed made =
    subst (Mo bytes) (sym (made ∙ ap (λ (n : ℕ → List ℕ → ℕ). named_in n bytes) (sym is))) (is_mo bytes passed)
read_in_order bytes number (Err e) is passed made = tt

-- ---- the entries that are read, one after another

pub named_split : (number : ℕ → List ℕ → ℕ) (bytes : List ℕ) (o t n i : ℕ) → i < n
    → named_rows number bytes (o + 8 * i) (t + 8 * i) (n - i)
    ≡ entry_of (string_at number bytes (o + 8 * i)) (string_at number bytes (t + 8 * i))
    ∷ named_rows number bytes (o + 8 * (i + 1)) (t + 8 * (i + 1)) (n - (i + 1))
named_split number bytes o t n i lt =
    ap (λ (os : List (List ℕ)). paired_entries os (strings number bytes (t + 8 * i) (n - i)))
    (strings_split number bytes o n i lt)
    ∙ ap (paired_entries (string_at number bytes (o + 8 * i) ∷ strings number bytes (o + 8 * (i + 1)) (n - (i + 1))))
    (strings_split number bytes t n i lt)

pub one_more : (number : ℕ → List ℕ → ℕ) (bytes : List ℕ) (o t n i : ℕ) (xs ys : List Entry) (e : Entry)
    (all : List Entry) → i < n
    → e ≡ entry_of (string_at number bytes (o + 8 * i)) (string_at number bytes (t + 8 * i)) → ys ≡ xs ++ e ∷ []
    → xs ++ named_rows number bytes (o + 8 * i) (t + 8 * i) (n - i) ≡ all
    → ys ++ named_rows number bytes (o + 8 * (i + 1)) (t + 8 * (i + 1)) (n - (i + 1)) ≡ all
one_more number bytes o t n i xs ys e all lt same grown so_far =
    let rest : List Entry = named_rows number bytes (o + 8 * (i + 1)) (t + 8 * (i + 1)) (n - (i + 1)) in
    ap (λ (zs : List Entry). zs ++ rest) grown ∙ append_assoc xs (e ∷ []) rest
    ∙ ap (λ (x : Entry). xs ++ (x ∷ rest)) same
    ∙ ap (λ (z : List Entry). xs ++ z) (sym (named_split number bytes o t n i lt)) ∙ so_far

pub named_words : (number : ℕ → List ℕ → ℕ) (bytes : List ℕ) (o t n : ℕ) → o ≡ originals_start number bytes → t
    ≡ translations_start number bytes → n ≡ count number bytes
    → named_rows number bytes o t n ≡ named_in number bytes
named_words number bytes o t n eo et en =
    ap (λ (a : ℕ). named_rows number bytes a t n) eo ∙ ap (λ (a : ℕ). named_rows number bytes
    (originals_start number bytes) a n) et
    ∙ ap (named_rows number bytes (originals_start number bytes) (translations_start number bytes)) en

pub at_words : (P : ℕ → ℕ → Type 0) (a b x y : ℕ) → a ≡ x → b ≡ y → P x y → P a b
at_words P a b x y ea eb p = subst (λ c. P c b) (sym ea) (subst (P x) (sym eb) p)
