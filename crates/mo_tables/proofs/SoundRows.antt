-- What one pass over the rows has established.
use Rattle.mo_tables.proofs.Kit.{◌≡◌, ℕ, ◌+◌, ◌-◌, ◌*◌, ◌<◌, ◌≤◌, List, [], ◌∷◌, length, sym, ap, ◌∙◌, subst, arith}
use Rattle.mo_tables.proofs.Kit.{inl, inr, nat_cmp, Less, slice_cmp, cases_lt, Span, part, word_at, string_at, table_at}
use Rattle.mo_tables.proofs.Kit.{before_nul, HasNul, HasLawfulHeader, text_in}
use Rattle.std.specs.Prelude.{slice_index}
use Rattle.std.specs.declared.cmp.Ordering.TheVariants.{Equal, Greater}
use Rattle.mo_tables.specs.MoTables.{TableLies, IsOriginalText, IsTranslationText, HasLawfulForms, AreSound}
use Rattle.mo_tables.specs.Rows.{span_at}
use Rattle.mo_tables.proofs.TableRows.{text_is}

-- an original and its translation are texts with lawful forms
pub record IsSound (o t : List ℕ) : Type 0 where
  pub original : IsOriginalText o
  pub translation : IsTranslationText t
  pub forms : HasLawfulForms o t
  pub header : HasLawfulHeader o t

-- the first i rows are sound, and their keys rise
pub record SoundTo (number : ℕ → List ℕ → ℕ) (bytes : List ℕ) (o t i : ℕ) : Type 0 where
  pub with_nul : (k : ℕ) → k < i → HasNul number bytes (o + 8 * k) × HasNul number bytes (t + 8 * k)
  pub each : (k : ℕ) → k < i → IsSound (string_at number bytes (o + 8 * k)) (string_at number bytes (t + 8 * k))
  pub rise : (k : ℕ) → k + 1 < i
      → slice_cmp nat_cmp (before_nul (string_at number bytes (o + 8 * k)))
      (before_nul (string_at number bytes (o + 8 * (k + 1)))) ≡ Less

pub none_yet : (number : ℕ → List ℕ → ℕ) (bytes : List ℕ) (o t i : ℕ) → i ≤ 0 → SoundTo number bytes o t i
none_yet number bytes o t i le = record {
  with_nul = λ k lt. absurd (omega (arith, le, lt));
  each = λ k lt. absurd (omega (arith, le, lt));
  rise = λ k lt. absurd (omega (arith, le, lt));
}

pub all_sound : (number : ℕ → List ℕ → ℕ) (bytes : List ℕ) (o t n i : ℕ) → n ≤ i → SoundTo number bytes o t i
    → AreSound (table_at number bytes o n) (table_at number bytes t n)
all_sound number bytes o t n i le so_far = record {
  originals_have_nul = record { each = λ k lt. (so_far.with_nul k (omega (arith, le, lt))).0 };
  translations_have_nul = record { each = λ k lt. (so_far.with_nul k (omega (arith, le, lt))).1 };
  original_texts = record { each = λ k lt. (so_far.each k (omega (arith, le, lt))).original };
  translation_texts = record { each = λ k lt. (so_far.each k (omega (arith, le, lt))).translation };
  forms = record { each = λ k lt. (so_far.each k (omega (arith, le, lt))).forms };
  rise = record { each = λ k lt. so_far.rise k (omega (arith, le, lt)) };
  headers = record { each = λ k lt. (so_far.each k (omega (arith, le, lt))).header };
}

-- a key above another one isn't empty
not_empty : (a b : List ℕ) → slice_cmp nat_cmp a b ≡ Less → b ≡ [] → ⊥
not_empty [] b less e = let no_less : Equal ≡ Less = ap (slice_cmp nat_cmp []) (sym e) ∙ less in absurd cc
not_empty (x ∷ a) b less e = let no_less : Greater ≡ Less = ap (slice_cmp nat_cmp (x ∷ a)) (sym e) ∙ less in absurd cc

pub later_header : (a o t : List ℕ) → slice_cmp nat_cmp a (before_nul o) ≡ Less → HasLawfulHeader o t
later_header a o t less = record { accepted = λ e. absurd (not_empty a (before_nul o) less e) }

-- one more row
pub one_sound : (number : ℕ → List ℕ → ℕ) (bytes : List ℕ) (o t i : ℕ) → SoundTo number bytes o t i
    → HasNul number bytes (o + 8 * i) × HasNul number bytes (t + 8 * i)
    → IsSound (string_at number bytes (o + 8 * i)) (string_at number bytes (t + 8 * i))
    → (0 < i → slice_cmp nat_cmp (before_nul (string_at number bytes (o + 8 * (i - 1))))
    (before_nul (string_at number bytes (o + 8 * i))) ≡ Less)
    → SoundTo number bytes o t (i + 1)
one_sound number bytes o t i so_far shut sound rises = record {
  with_nul = λ k lt. elim (cases_lt k i) [
    | inl less ↦ so_far.with_nul k less
    | inr ge ↦
        let e : i ≡ k = omega (arith, ge, lt) in
        subst (λ j. HasNul number bytes (o + 8 * j) × HasNul number bytes (t + 8 * j)) e shut
  ];
  each = λ k lt. elim (cases_lt k i) [
    | inl less ↦ so_far.each k less
    | inr ge ↦
        let e : i ≡ k = omega (arith, ge, lt) in
        subst (λ j. IsSound (string_at number bytes (o + 8 * j)) (string_at number bytes (t + 8 * j))) e sound
  ];
  rise = λ k lt. elim (cases_lt (k + 1) i) [
    | inl less ↦ so_far.rise k less
    | inr ge ↦
        let e : i ≡ k + 1 = omega (arith, ge, lt) in
        let before : i - 1 ≡ k = omega (arith, e) in
        subst (λ j. slice_cmp nat_cmp (before_nul (string_at number bytes (o + 8 * j)))
        (before_nul (string_at number bytes (o + 8 * (k + 1)))) ≡ Less) before
        (subst (λ j. slice_cmp nat_cmp (before_nul (string_at number bytes (o + 8 * (i - 1))))
        (before_nul (string_at number bytes (o + 8 * j))) ≡ Less) e (rises (omega (arith, e))))
  ];
}

pub text_at : (number : ℕ → List ℕ → ℕ) (bytes : List ℕ) (offset : ℕ) (span : Span) → span ≡ span_at number bytes offset
    → text_in bytes span ≡ string_at number bytes offset
text_at number bytes offset span is = ap (text_in bytes) is
    ∙ text_is number bytes offset

-- the slice of the file that is a row's string
pub slice_is : (number : ℕ → List ℕ → ℕ) (bytes : List ℕ) (offset : ℕ) (span : Span) (start end : ℕ)
    → span ≡ span_at number bytes offset → start ≡ span.start → end ≡ span.start + span.len
    → part bytes start end ≡ string_at number bytes offset
slice_is number bytes offset span start end is from to =
    ap (λ a. part bytes a end) from ∙ ap (part bytes span.start) to ∙ ap (text_in bytes) is
    ∙ text_is number bytes offset

pub first_lies : (number : ℕ → List ℕ → ℕ) (bytes : List ℕ) (table n : ℕ) → TableLies (table_at number bytes table n)
    → 0 < n
    → word_at number bytes (table + 4) ≤ length bytes
first_lies number bytes table n lies some =
    let e : table + 8 * 0 ≡ table = omega arith in
    omega (arith, lies.strings 0 some, ap (λ p. word_at number bytes (p + 4)) e)

-- the byte after a row's string
pub has_nul_at : (number : ℕ → List ℕ → ℕ) (bytes : List ℕ) (offset : ℕ) (span : Span)
    → span ≡ span_at number bytes offset → slice_index bytes (span.start + span.len) ≡ 0 → HasNul number bytes offset
has_nul_at number bytes offset span is nul = subst (λ (s : Span). slice_index bytes (s.start + s.len) ≡ 0) is nul
