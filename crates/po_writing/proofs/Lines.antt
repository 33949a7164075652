-- A string is written byte by byte.
use Rattle.std.proofs.Common.{◌≡◌, ℕ, Bool, true, false, List, [], ◌∷◌, ◌++◌, refl, sym, ap}
use Rattle.std.proofs.Common.{◌∙◌, append_assoc, inl, inr}
use Rattle.std.specs.List.{flat_map, onto_first}
use Rattle.std.proofs.lemmas.Bool.{cases_eq, ne_eqb}
use Rattle.std.proofs.lemmas.List.{append-nil}
use Rattle.po_writing.specs.Written.{written_byte, written_bytes, literal, lines_of, parts_by_lines, parts_of}
use Rattle.po_writing.specs.Steps.{is_several, seam, behind_quote, empty_part}

onto_written : (escape : Bool) (b : ℕ) (lines : List (List ℕ)) (t : List ℕ) → flat_map (literal escape) lines ≡ 34 ∷ t
    → flat_map (literal escape) (onto_first b lines) ≡ 34 ∷ (written_byte escape b ++ t)
onto_written escape b [] t e = absurd (cc e)
onto_written escape b (line ∷ lines) t e =
    let one = written_byte escape b in
    let w = written_bytes escape line in
    let others = flat_map (literal escape) lines in
    let same : (w ++ 34 ∷ 10 ∷ []) ++ others ≡ t = cc e in
    ap (λ (x : List ℕ). 34 ∷ x) (ap (λ (x : List ℕ). x ++ others) (append_assoc one w (34 ∷ 10 ∷ []))
    ∙ append_assoc one (w ++ 34 ∷ 10 ∷ []) others ∙ ap (λ (x : List ℕ). one ++ x) same)

-- a byte other than LF goes onto the line behind it, and no line ends there
lines_other : (b : ℕ) (more : List ℕ) → (b ≡ 10 → ⊥) → lines_of (b ∷ more) ≡ onto_first b (lines_of more)
lines_other b more n = rw (ne_eqb b 10 n) refl

seam_other : (b : ℕ) (more : List ℕ) → (b ≡ 10 → ⊥) → seam b more ≡ []
seam_other b [] n = refl
seam_other b (c ∷ more) n = rw (ne_eqb b 10 n) refl

last_written : (escape : Bool) (b : ℕ) → flat_map (literal escape) ((b ∷ []) ∷ []) ≡ 34 ∷ behind_quote escape (b ∷ [])
last_written escape b = ap (λ (x : List ℕ). 34 ∷ x) (append-nil ((written_byte escape b ++ []) ++ 34 ∷ 10 ∷ [])
    ∙ ap (λ (x : List ℕ). x ++ 34 ∷ 10 ∷ []) (append-nil (written_byte escape b)))

lines_written : (escape : Bool) (b : ℕ) (more : List ℕ) → flat_map (literal escape) (lines_of (b ∷ more))
    ≡ 34 ∷ behind_quote escape (b ∷ more)
lines_written escape b [] = elim (cases_eq b 10) [
  | inl e ↦ rw e refl
  | inr n ↦ ap (λ (ls : List (List ℕ)). flat_map (literal escape) ls) (lines_other b [] n) ∙ last_written escape b
]
lines_written escape b (c ∷ more) =
    let later = lines_written escape c more in
    elim (cases_eq b 10) [
      | inl e ↦ rw e (ap (λ (x : List ℕ). 34 ∷ x) (ap (λ (x : List ℕ). (92 ∷ 110 ∷ 34 ∷ 10 ∷ []) ++ x) later))
      | inr n ↦
          let t = behind_quote escape (c ∷ more) in
          ap (λ (ls : List (List ℕ)). flat_map (literal escape) ls) (lines_other b (c ∷ more) n)
          ∙ onto_written escape b (lines_of (c ∷ more)) t later
          ∙ ap (λ (x : List ℕ). 34 ∷ (written_byte escape b ++ (x ++ t))) (sym (seam_other b (c ∷ more) n))
    ]

-- whether there are several lines, by the lines
abbrev counts_several : List (List ℕ) → Bool
counts_several (line ∷ next ∷ more) = true
counts_several _ = false

counts-onto_first : (b : ℕ) (lines : List (List ℕ)) → counts_several (onto_first b lines) ≡ counts_several lines
counts-onto_first b [] = refl
counts-onto_first b (line ∷ []) = refl
counts-onto_first b (line ∷ next ∷ more) = refl

onto_some : (b : ℕ) (lines : List (List ℕ)) (first : List ℕ) → counts_several (first ∷ onto_first b lines) ≡ true
onto_some b [] first = refl
onto_some b (line ∷ more) first = refl

line_first : (first : List ℕ) (c : ℕ) (more : List ℕ) → counts_several (first ∷ lines_of (c ∷ more)) ≡ true
line_first first c more = elim (cases_eq c 10) [
  | inl e ↦ rw e refl
  | inr n ↦ rw (ne_eqb c 10 n) (onto_some c (lines_of more) first)
]

several_lines : (text : List ℕ) → counts_several (lines_of text) ≡ is_several text
several_lines [] = refl
several_lines (b ∷ []) = elim (cases_eq b 10) [
  | inl e ↦ rw e refl
  | inr n ↦ rw (ne_eqb b 10 n) refl
]
several_lines (b ∷ c ∷ more) = elim (cases_eq b 10) [
  | inl e ↦ rw e (line_first (10 ∷ []) c more)
  | inr n ↦ rw (ne_eqb b 10 n) (counts-onto_first b (lines_of (c ∷ more)) ∙ several_lines (c ∷ more))
]

parts_written : (escape : Bool) (lines : List (List ℕ)) (t : List ℕ) → flat_map (literal escape) lines ≡ 34 ∷ t
    → flat_map (literal escape) (parts_by_lines lines) ≡ empty_part (counts_several lines) ++ 34 ∷ t
parts_written escape [] t e = absurd (cc e)
parts_written escape (line ∷ []) t e = e
parts_written escape (line ∷ next ∷ more) t e = ap (λ (x : List ℕ). 34 ∷ 34 ∷ 10 ∷ x) e

-- a string: the empty part, if it has several lines, and its lines
pub string_written : (escape : Bool) (text : List ℕ) → flat_map (literal escape) (parts_of text)
    ≡ empty_part (is_several text) ++ 34 ∷ behind_quote escape text
string_written escape [] = refl
string_written escape (b ∷ more) = parts_written escape (lines_of (b ∷ more)) (behind_quote escape (b ∷ more))
    (lines_written escape b more)
    ∙ ap (λ (k : Bool). empty_part k ++ 34 ∷ behind_quote escape (b ∷ more)) (several_lines (b ∷ more))
