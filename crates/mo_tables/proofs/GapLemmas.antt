-- Searches for a byte in parts of a file: what they find, and how often the byte occurs.
use Rattle.mo_tables.proofs.Kit.{◌≡◌, ℕ, ◌+◌, ◌-◌, ◌<◌, ◌≤◌, List, length, take, drop, get_or, Some, None, sym, ap, ◌∙◌}
use Rattle.mo_tables.proofs.Kit.{arith, inl, inr, refl, min, cond, eqb, Bool, true, false, cases_lt, eqb-true, eq-eqb}
use Rattle.mo_tables.proofs.Kit.{get_or-drop, count_by, position_or_len, IsFirstByte, is_byte, before_nul, part}
use Rattle.std.proofs.lemmas.List.{get_or-take, drop-take, drop-drop, take-take}
use Rattle.std.proofs.lemmas.List.Sums.{position_or_len_is, sum_by-take-drop}
use Rattle.mo_tables.specs.declared.gap.Gap.{Gap}
use Rattle.mo_tables.specs.FileParts.{IsGap, Ends}
use Rattle.mo_tables.proofs.PartLemmas.{length-part}
use Rattle.mo_tables.proofs.Cuts.{is, count_absent, count_past}

pub byte_in_part : (bytes : List ℕ) (start end j : ℕ) → start + j < end → get_or (part bytes start end) j 0
    ≡ get_or bytes (start + j) 0
byte_in_part bytes start end j lt = get_or-take (end - start) (drop start bytes) j 0 (omega (arith, lt))
    ∙ get_or-drop start bytes j 0

-- ---- one search, which begins where the gap ends

module _ (bytes : List ℕ) (byte start end : ℕ) (gap : Gap) (lacks : IsGap bytes byte gap) (from : gap.from ≤ start)
    (to : start ≤ gap.to) (lt : gap.to < end) (within : end ≤ length bytes) where
  -- it finds the byte
  pub found : (k : ℕ) → IsFirstByte (is_byte byte) (part bytes gap.to end) (Some k)
      → Ends bytes byte start end (record { from = gap.from; to = gap.to + k })
  found k first =
      let long : length (part bytes gap.to end) ≡ end - gap.to = length-part bytes gap.to end (omega
      (arith, lt)) within in
      record {
        lacks = record {
          rises = omega (arith, lacks.rises);
          within = omega (arith, first.0.high, long, within);
          lacks = λ i le less. elim (cases_lt i gap.to) [
            | inl before ↦ lacks.lacks i le before
            | inr behind ↦
                let n : gap.to + (i - gap.to) ≡ i = omega (arith, behind) in
                let at : get_or (part bytes gap.to end) (i - gap.to) 0 ≡ get_or bytes i 0 =
                byte_in_part bytes gap.to end (i - gap.to) (omega (arith, behind, less, first.0.high, long))
                ∙ ap (λ m. get_or bytes m 0) n in
                λ same. first.0.before (i - gap.to) (omega arith) (omega (arith, behind, less)) (eq-eqb _ byte (at
                ∙ same))
          ];
        };
        around = (from, omega (arith, to));
        found = λ here. sym (byte_in_part bytes gap.to end k (omega (arith, here))) ∙ eqb-true _ _ first.1;
      }

  -- it doesn't
  pub not_found : IsFirstByte (is_byte byte) (part bytes gap.to end) None
      → Ends bytes byte start end (record { from = gap.from; to = end })
  not_found none =
      let long : length (part bytes gap.to end) ≡ end - gap.to = length-part bytes gap.to end (omega
      (arith, lt)) within in
      record {
        lacks = record {
          rises = omega (arith, lacks.rises, lt);
          within = within;
          lacks = λ i le less. elim (cases_lt i gap.to) [
            | inl before ↦ lacks.lacks i le before
            | inr behind ↦
                let n : gap.to + (i - gap.to) ≡ i = omega (arith, behind) in
                let at : get_or (part bytes gap.to end) (i - gap.to) 0 ≡ get_or bytes i 0 =
                byte_in_part bytes gap.to end (i - gap.to) (omega (arith, behind, less))
                ∙ ap (λ m. get_or bytes m 0) n in
                λ same. none (i - gap.to) (omega arith) (omega (arith, behind, less, long)) (eq-eqb _ byte (at ∙ same))
          ];
        };
        around = (from, omega (arith, to, lt));
        found = λ here. absurd (omega (arith, here));
      }

-- ---- how often the byte occurs in the part that was searched

module _ (bytes : List ℕ) (byte start end : ℕ) (gap : Gap) (ended : Ends bytes byte start end gap) (le : start ≤ end)
    (within : end ≤ length bytes) where
  long : length (part bytes start end) ≡ end - start
  long = length-part bytes start end le within

  -- none before the gap's end
  lacks : (k : ℕ) → start + k < end → start + k < gap.to → eqb (get_or (part bytes start end) k 0) byte ≡ true → ⊥
  lacks k lt less same = ended.lacks.lacks (start + k) (omega (arith, ended.around.0)) less
      (sym (byte_in_part bytes start end k lt) ∙ eqb-true _ byte same)

  -- none, if the gap reaches the end of the part
  pub count_nowhere : end ≤ gap.to → count_by (is byte) (part bytes start end) ≡ 0
  count_nowhere past = count_absent byte (part bytes start end)
      (λ k low lt. lacks k (omega (arith, long, lt)) (omega (arith, long, lt, past)))

  -- one at the gap's end, and those after it
  pub count_here : gap.to < end → count_by (is byte) (part bytes start end)
      ≡ 1 + count_by (is byte) (part bytes (gap.to + 1) end)
  count_here here =
      let k : ℕ = gap.to - start in
      let n : start + (gap.to - start) ≡ gap.to = omega (arith, ended.around.1) in
      let at : get_or (part bytes start end) (gap.to - start) 0 ≡ byte =
      byte_in_part bytes start end (gap.to - start) (omega (arith, n, here)) ∙ ap (λ m. get_or bytes m 0) n
      ∙ ended.found here in
      let counted = count_past byte (part bytes start end) (gap.to - start) (
        record {
          low = omega arith;
          high = omega (arith, long, n, here);
          before = λ i low lt. lacks i (omega (arith, lt, n, here)) (omega (arith, lt, n));
        },
        eq-eqb _ byte at,
      ) in
      let m : end - start ≡ (gap.to - start + 1) + (end - (gap.to + 1)) = omega (arith, here, ended.around.1) in
      let o : start + (gap.to - start + 1) ≡ gap.to + 1 = omega (arith, n) in
      let rest : drop (gap.to - start + 1) (part bytes start end) ≡ part bytes (gap.to + 1) end =
      ap (λ j. drop (gap.to - start + 1) (take j (drop start bytes))) m
      ∙ drop-take (gap.to - start + 1) (end - (gap.to + 1)) (drop start bytes)
      ∙ ap (take (end - (gap.to + 1))) (drop-drop (gap.to - start + 1) start bytes ∙ ap (λ j. drop j bytes) o) in
      counted ∙ ap (λ l. 1 + count_by (is byte) l) rest

-- none in a part that lies in a gap
pub count_covered : (bytes : List ℕ) (byte start end : ℕ) (gap : Gap) → IsGap bytes byte gap → start ≤ end
    → end ≤ length bytes → gap.from ≤ start → end ≤ gap.to → count_by (is byte) (part bytes start end) ≡ 0
count_covered bytes byte start end gap is le within from to = count_nowhere bytes byte start end gap (record {
  lacks = is;
  around = (from, omega (arith, le, to));
  found = λ here. absurd (omega (arith, here, to));
}) le within to

-- ---- the key of a string, before its first NUL

not_true : (b : Bool) → (b ≡ true → ⊥) → b ≡ false
not_true true h = absurd (h refl)
not_true false h = refl

pub key_part : (bytes : List ℕ) (start end : ℕ) (gap : Gap) → Ends bytes 0 start end gap → start ≤ end
    → end ≤ length bytes
    → before_nul (part bytes start end) ≡ part bytes start (min end gap.to)
key_part bytes start end gap ended le within =
    let text : List ℕ = part bytes start end in
    let n : ℕ = min end gap.to - start in
    let long : length (part bytes start end) ≡ end - start = length-part bytes start end le within in
    let at : position_or_len (is 0) (part bytes start end) ≡ min end gap.to - start =
    position_or_len_is (is 0) (part bytes start end) (min end gap.to - start) 0 (omega (arith, long))
    (λ k lt. not_true _ (λ same. lacks bytes 0 start end gap ended le within k (omega (arith, lt)) (omega
    (arith, lt)) same))
    (λ lt.
    let here : gap.to < end = omega (arith, lt, long, ended.around.1) in
    let m : start + (min end gap.to - start) ≡ gap.to = omega (arith, here, ended.around.1) in
    eq-eqb _ 0 (byte_in_part bytes start end (min end gap.to - start) (omega (arith, m, here))
    ∙ ap (λ j. get_or bytes j 0) m ∙ ended.found here)) in
    ap (λ j. take j (part bytes start end)) at
    ∙ take-take (min end gap.to - start) (end - start) (drop start bytes) (omega (arith, ended.around.1))

-- a byte occurs in the key no more often than in the whole
pub count_key : (byte : ℕ) (text : List ℕ) → count_by (is byte) (before_nul text) ≤ count_by (is byte) text
count_key byte text = omega (arith, sum_by-take-drop (λ x. cond (eqb x byte) 1 0) text (position_or_len (is 0) text))
