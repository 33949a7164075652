-- The parts that a string is written in are lawful, and joined they are the string.
use Rattle.std.proofs.Common.{◌≡◌, ◌≢◌, ℕ, ◌+◌, List, [], ◌∷◌, ◌++◌, length, take, drop, get_or, refl, sym, ap, ◌∙◌}
use Rattle.std.proofs.Common.{subst, arith, append_assoc, length-append, inl, inr}
use Rattle.std.specs.List.{AllByRecursion, concat, onto_first}
use Rattle.std.specs.Str.{IsUtf8, IsCharBoundary}
use Rattle.std.proofs.lemmas.Bool.{cases_eq, ne_eqb}
use Rattle.std.proofs.lemmas.List.{append-nil, take_at, drop_at, get_or_at}
use Rattle.std.proofs.lemmas.Str.{IsUtf8-nil, IsUtf8-take, IsUtf8-drop, IsCharBoundary-after_ascii}
use Rattle.po_writing.specs.Written.{lines_of, parts_by_lines, parts_of}

-- ---- joined again

concat-onto_first : (b : ℕ) (lines : List (List ℕ)) → concat (onto_first b lines) ≡ b ∷ concat lines
concat-onto_first b [] = refl
concat-onto_first b (line ∷ lines) = refl

concat-lines_of : (text : List ℕ) → concat (lines_of text) ≡ text
concat-lines_of [] = refl
concat-lines_of (b ∷ more) = elim (cases_eq b 10) [
  | inl e ↦ rw e (ap (λ (t : List ℕ). 10 ∷ t) (concat-lines_of more))
  | inr n ↦ rw (ne_eqb b 10 n) (concat-onto_first b (lines_of more)
      ∙ ap (λ (t : List ℕ). b ∷ t) (concat-lines_of more))
]

concat-parts_by_lines : (lines : List (List ℕ)) → concat (parts_by_lines lines) ≡ concat lines
concat-parts_by_lines [] = refl
concat-parts_by_lines (line ∷ []) = refl
concat-parts_by_lines (line ∷ next ∷ more) = refl

pub concat-parts_of : (text : List ℕ) → concat (parts_of text) ≡ text
concat-parts_of text = concat-parts_by_lines (lines_of text) ∙ concat-lines_of text

some_lines : (lines : List (List ℕ)) → parts_by_lines lines ≢ []
some_lines [] e = absurd (cc e)
some_lines (line ∷ []) e = absurd (cc e)
some_lines (line ∷ next ∷ more) e = absurd (cc e)

pub some_parts : (text : List ℕ) → parts_of text ≢ []
some_parts text = some_lines (lines_of text)

-- ---- each part

All-split : (P : ℕ → Type 0) (xs ys : List ℕ) → AllByRecursion P (xs ++ ys) → AllByRecursion P xs × AllByRecursion P ys
All-split P [] ys all = (tt, all)
All-split P (x ∷ xs) ys all = let h = All-split P xs ys all.1 in ((all.0, h.0), h.1)

all_concat : (P : ℕ → Type 0) (parts : List (List ℕ)) → AllByRecursion P (concat parts)
    → AllByRecursion (λ part. AllByRecursion P part) parts
all_concat P [] all = tt
all_concat P (part ∷ parts) all = let h = All-split P part (concat parts) all in (h.0, all_concat P parts h.1)

-- what holds of each byte of a text holds of each byte of its parts
pub all_parts : (P : ℕ → Type 0) (text : List ℕ) → AllByRecursion P text
    → AllByRecursion (λ part. AllByRecursion P part) (parts_of text)
all_parts P text all = all_concat P (parts_of text)
    (subst (λ (t : List ℕ). AllByRecursion P t) (sym (concat-parts_of text)) all)

-- ---- UTF-8

-- the lines are UTF-8, the first one behind these bytes
abbrev LinesFrom : List ℕ → List (List ℕ) → Type 0
LinesFrom front [] = IsUtf8 front
LinesFrom front (line ∷ lines) = IsUtf8 (front ++ line) × AllByRecursion IsUtf8 lines

from_start : (lines : List (List ℕ)) → LinesFrom [] lines → AllByRecursion IsUtf8 lines
from_start [] u = tt
from_start (line ∷ lines) u = u

moved : (front : List ℕ) (b : ℕ) (lines : List (List ℕ)) → LinesFrom (front ++ b ∷ []) lines
    → LinesFrom front (onto_first b lines)
moved front b [] u = (u, tt)
moved front b (line ∷ lines) u = (subst IsUtf8 (append_assoc front (b ∷ []) line) u.0, u.1)

-- a text is cut after LF
cut_line : (front more : List ℕ) → IsUtf8 (front ++ 10 ∷ more) → IsUtf8 (front ++ 10 ∷ []) × IsUtf8 more
cut_line front more u =
    let text = front ++ 10 ∷ more in
    let n = length front + 1 in
    let long : length text ≡ length front + length (10 ∷ more) = length-append front (10 ∷ more) in
    let split : text ≡ (front ++ 10 ∷ []) ++ more = sym (append_assoc front (10 ∷ []) more) in
    let len : length (front ++ 10 ∷ []) ≡ n = length-append front (10 ∷ []) in
    let at : get_or text (length front) 0 ≡ 10 = get_or_at front 10 more 0 (length front) refl in
    let cut : IsCharBoundary text n = IsCharBoundary-after_ascii text (length front) u (omega (arith, long))
    (omega (arith, at)) in
    let first : take n text ≡ front ++ 10 ∷ [] = ap (take n) split ∙ take_at (front ++ 10 ∷ []) more n len in
    let rest : drop n text ≡ more = ap (drop n) split ∙ drop_at (front ++ 10 ∷ []) more n len in
    (subst IsUtf8 first (IsUtf8-take text n u cut), subst IsUtf8 rest (IsUtf8-drop text n u cut))

lines_utf8 : (front text : List ℕ) → IsUtf8 (front ++ text) → LinesFrom front (lines_of text)
lines_utf8 front [] u = subst IsUtf8 (append-nil front) u
lines_utf8 front (b ∷ more) u = elim (cases_eq b 10) [
  | inl e ↦
      let cut = cut_line front more (subst (λ (x : ℕ). IsUtf8 (front ++ x ∷ more)) e u) in
      rw e (cut.0, from_start (lines_of more) (lines_utf8 [] more cut.1))
  | inr n ↦ rw (ne_eqb b 10 n) (moved front b (lines_of more) (lines_utf8 (front ++ b ∷ []) more
      (subst IsUtf8 (sym (append_assoc front (b ∷ []) more)) u)))
]

parts_utf8 : (lines : List (List ℕ)) → AllByRecursion IsUtf8 lines → AllByRecursion IsUtf8 (parts_by_lines lines)
parts_utf8 [] u = (IsUtf8-nil, tt)
parts_utf8 (line ∷ []) u = u
parts_utf8 (line ∷ next ∷ more) u = (IsUtf8-nil, u)

-- each part of a text that is UTF-8 is UTF-8
pub utf8_parts : (text : List ℕ) → IsUtf8 text → AllByRecursion IsUtf8 (parts_of text)
utf8_parts text u = parts_utf8 (lines_of text) (from_start (lines_of text) (lines_utf8 [] text u))
