-- Parts of a file: parts of parts, two that join, and which of them are UTF-8.
use Rattle.mo_tables.proofs.Kit.{◌≡◌, ℕ, ◌+◌, ◌-◌, ◌<◌, ◌≤◌, List, ◌++◌, length, take, drop, get_or, sym, ap, ◌∙◌}
use Rattle.mo_tables.proofs.Kit.{subst, arith, inl, inr, IsUtf8, cases_lt, length-drop, get_or-drop, part, IsStretch}
use Rattle.std.specs.Str.{IsCharBoundary}
use Rattle.std.proofs.lemmas.List.{length-take-le, take-take, drop-drop, drop-take, get_or-take}
use Rattle.std.proofs.Math.Seq.{take-add}
use Rattle.std.proofs.lemmas.Str.{IsUtf8-drop, IsUtf8-nil, IsUtf8-append, IsUtf8-between, IsCharBoundary-start}
use Rattle.std.proofs.lemmas.Str.{IsCharBoundary-from_take}
use Rattle.mo_tables.specs.declared.stretch.Stretch.{Stretch}

same : (m n : ℕ) (bytes : List ℕ) → m ≡ n → drop m bytes ≡ drop n bytes
same m n bytes e = ap (λ k. drop k bytes) e

pub length-part : (bytes : List ℕ) (start end : ℕ) → start ≤ end → end ≤ length bytes → length (part bytes start end)
    ≡ end - start
length-part bytes start end le within = length-take-le (end - start) (drop start bytes)
    (omega (arith, le, within, length-drop start bytes))

pub part_joined : (bytes : List ℕ) (start middle end : ℕ) → start ≤ middle → middle ≤ end → part bytes start end
    ≡ part bytes start middle ++ part bytes middle end
part_joined bytes start middle end le more =
    let n : end - start ≡ (middle - start) + (end - middle) = omega (arith, le, more) in
    let m : start + (middle - start) ≡ middle = omega (arith, le) in
    ap (λ k. take k (drop start bytes)) n ∙ take-add (middle - start) (end - middle) (drop start bytes)
    ∙ ap (λ l. part bytes start middle ++ take (end - middle) l) (drop-drop (middle - start) start bytes
    ∙ same (start + (middle - start)) middle bytes m)

pub part_in_part : (bytes : List ℕ) (start end i j : ℕ) → i ≤ j → start + j ≤ end → part (part bytes start end) i j
    ≡ part bytes (start + i) (start + j)
part_in_part bytes start end i j le within =
    let n : end - start ≡ i + (end - start - i) = omega (arith, le, within) in
    let k : (start + j) - (start + i) ≡ j - i = omega (arith, le) in
    ap (λ m. take (j - i) (drop i (take m (drop start bytes)))) n
    ∙ ap (take (j - i)) (drop-take i (end - start - i) (drop start bytes))
    ∙ take-take (j - i) (end - start - i) (drop i (drop start bytes)) (omega (arith, le, within))
    ∙ ap (take (j - i)) (drop-drop i start bytes)
    ∙ ap (λ m. take m (drop (start + i) bytes)) (sym k)

-- ---- a part of a text

byte_in : (text : List ℕ) (i j : ℕ) → i < j → get_or (part text i j) 0 0 ≡ get_or text i 0
byte_in text i j lt =
    let k : i + 0 ≡ i = omega arith in
    get_or-take (j - i) (drop i text) 0 0 (omega (arith, lt)) ∙ get_or-drop i text 0 0 ∙ ap (λ n. get_or text n 0) k

-- a part that is UTF-8 and not empty begins with a character
pub begins : (text : List ℕ) (i j : ℕ) → i < j → j ≤ length text → IsUtf8 (part text i j) → IsCharBoundary text i
begins text i j lt within utf8 =
    let first = IsCharBoundary-start (part text i j) utf8 in
    let long : 0 < length (part text i j) = omega (arith, lt, length-part text i j (omega (arith, lt)) within) in
    let at : get_or (part text i j) 0 0 ≡ get_or text i 0 = byte_in text i j lt in
    (omega (arith, lt, within), λ h big. omega (arith, at, first.1 long (omega (arith, at, big))))

-- where it ends, another character begins or the text ends
pub ends : (text : List ℕ) (i j : ℕ) → IsUtf8 text → i < j → j ≤ length text → IsUtf8 (part text i j)
    → IsCharBoundary text j
ends text i j whole lt within utf8 =
    let rest : IsUtf8 (drop i text) = IsUtf8-drop text i whole (begins text i j lt within utf8) in
    let long : length (drop i text) ≡ length text - i = length-drop i text in
    let cut = IsCharBoundary-from_take (drop i text) (j - i) rest (omega (arith, long, lt, within)) utf8 in
    let k : i + (j - i) ≡ j = omega (arith, lt) in
    let at : get_or (drop i text) (j - i) 0 ≡ get_or text j 0 = get_or-drop i text (j - i) 0
    ∙ ap (λ n. get_or text n 0) k in
    (within, λ h big. omega (arith, at, cut.1 (omega (arith, long, lt, h)) (omega (arith, at, big))))

-- ---- a part that overlaps another one that is UTF-8

-- the bytes that they share are UTF-8
pub begins_within : (bytes : List ℕ) (start i known end : ℕ) → start ≤ i → i < known → known ≤ end → end ≤ length bytes
    → IsUtf8 (part bytes start known) → IsUtf8 (part bytes i end) → IsUtf8 (part bytes i known)
begins_within bytes start i known end le lt most within utf8 whole =
    let text : List ℕ = part bytes start known in
    let a : start + (i - start) ≡ i = omega (arith, le) in
    let b : start + (known - start) ≡ known = omega (arith, le, lt) in
    let long : length text ≡ known - start = length-part bytes start known (omega (arith, le, lt)) (omega
    (arith, most, within)) in
    let there : part text (i - start) (known - start) ≡ part bytes i known =
    part_in_part bytes start known (i - start) (known - start) (omega (arith, lt)) (omega (arith, le, lt))
    ∙ ap (λ n. part bytes n (start + (known - start))) a ∙ ap (part bytes i) b in
    let first = IsCharBoundary-start (part bytes i end) whole in
    let some : 0 < length (part bytes i end) = omega (
      arith,
      lt,
      most,
      length-part bytes i end (omega (arith, lt, most)) within,
    ) in
    let at : get_or (part bytes i end) 0 0 ≡ get_or bytes i 0 = byte_in bytes i end (omega (arith, lt, most)) in
    let again : get_or text (i - start) 0 ≡ get_or bytes i 0 =
    get_or-take (known - start) (drop start bytes) (i - start) 0 (omega (arith, le, lt))
    ∙ get_or-drop start bytes (i - start) 0 ∙ ap (λ n. get_or bytes n 0) a in
    let boundary : IsCharBoundary text (i - start) = (
      omega (arith, le, lt, long),
      λ h big. omega (arith, at, again, first.1 some (omega (arith, at, again, big))),
    ) in
    let end_boundary : IsCharBoundary text (known - start) = (
      omega (arith, long),
      λ h big. absurd (omega
          (arith, long, h)),
    ) in
    subst IsUtf8 there (IsUtf8-between text (i - start) (known - start) utf8 (omega (arith, lt)) boundary end_boundary)

empty : (bytes : List ℕ) (i j : ℕ) → j ≤ i → IsUtf8 (part bytes i j)
empty bytes i j le =
    let n : j - i ≡ 0 = omega (arith, le) in
    subst IsUtf8 (sym (ap (λ k. take k (drop i bytes)) n)) IsUtf8-nil

pub begins_inside : (bytes : List ℕ) (start known i end : ℕ) → start ≤ i → known ≤ end → end ≤ length bytes
    → IsUtf8 (part bytes start known) → IsUtf8 (part bytes i end) → IsUtf8 (part bytes i known)
begins_inside bytes start known i end le most within utf8 whole = elim (cases_lt i known) [
  | inl lt ↦ begins_within bytes start i known end le lt most within utf8 whole
  | inr past ↦ empty bytes i known past
]

-- the bytes after them are UTF-8
pub ends_behind : (bytes : List ℕ) (i known end : ℕ) → i ≤ known → known ≤ end → end ≤ length bytes
    → IsUtf8 (part bytes i known) → IsUtf8 (part bytes i end) → IsUtf8 (part bytes known end)
ends_behind bytes i known end more most within front whole =
    let text : List ℕ = part bytes i end in
    let n : i + (known - i) ≡ known = omega (arith, more) in
    let m : i + (end - i) ≡ end = omega (arith, more, most) in
    let long : length text ≡ end - i = length-part bytes i end (omega (arith, more, most)) within in
    let cut : take (known - i) text ≡ part bytes i known = take-take (known - i) (end - i) (drop i bytes) (omega
    (arith, most)) in
    let boundary : IsCharBoundary text (known - i) = IsCharBoundary-from_take text (known - i) whole
    (omega (arith, long, most)) (subst IsUtf8 (sym cut) front) in
    let k : end - i ≡ (known - i) + (end - known) = omega (arith, more, most) in
    let rest : drop (known - i) text ≡ part bytes known end =
    ap (λ j. drop (known - i) (take j (drop i bytes))) k ∙ drop-take (known - i) (end - known) (drop i bytes)
    ∙ ap (take (end - known)) (drop-drop (known - i) i bytes ∙ same (i + (known - i)) known bytes n) in
    subst IsUtf8 rest (IsUtf8-drop text (known - i) whole boundary)

-- a part of a stretch
pub inner : (bytes : List ℕ) (s : Stretch) → IsStretch bytes s → (i j : ℕ) → s.start ≤ i → i ≤ j
    → j ≤ s.start + length s.text.now → part s.text.now (i - s.start) (j - s.start) ≡ part bytes i j
inner bytes s is i j le more most =
    let a : s.start + (i - s.start) ≡ i = omega (arith, le) in
    let b : s.start + (j - s.start) ≡ j = omega (arith, le, more) in
    ap (λ l. part l (i - s.start) (j - s.start)) is.same
    ∙ part_in_part bytes s.start (s.start + length s.text.now) (i - s.start) (j - s.start) (omega (arith, more))
    (omega (arith, b, most))
    ∙ ap (λ n. part bytes n (s.start + (j - s.start))) a ∙ ap (part bytes i) b

-- two parts that follow one another are UTF-8 together
pub joined_utf8 : (bytes : List ℕ) (start middle end : ℕ) → start ≤ middle → middle ≤ end
    → IsUtf8 (part bytes start middle)
    → IsUtf8 (part bytes middle end) → IsUtf8 (part bytes start end)
joined_utf8 bytes start middle end le more front rest = subst IsUtf8 (sym (part_joined bytes start middle end le more))
    (IsUtf8-append (part bytes start middle) (part bytes middle end) front rest)

-- a part that begins with a character and ends before a NUL
pub part_with_nul : (bytes : List ℕ) (s : Stretch) → IsStretch bytes s → (start end : ℕ) → s.start ≤ start → start ≤ end
    → end < s.start + length s.text.now → get_or bytes end 0 ≡ 0 → IsCharBoundary s.text.now (start - s.start)
    → IsUtf8 (part bytes start end)
part_with_nul bytes s is start end le more lt nul boundary =
    let at : s.start + (end - s.start) ≡ end = omega (arith, le, more) in
    let here : get_or s.text.now (end - s.start) 0 ≡ get_or bytes end 0 =
    ap (λ l. get_or l (end - s.start) 0) is.same
    ∙ get_or-take _ (drop s.start bytes) (end - s.start) 0 (omega (arith, at, lt))
    ∙ get_or-drop s.start bytes (end - s.start) 0 ∙ ap (λ k. get_or bytes k 0) at in
    let end_boundary : IsCharBoundary s.text.now (end - s.start) = (
      omega (arith, at, lt),
      λ h big. absurd (omega (arith, here, nul, big)),
    ) in
    subst IsUtf8 (inner bytes s is start end le more (omega (arith, lt)))
    (IsUtf8-between s.text.now (start - s.start) (end - s.start) is.utf8 (omega (arith, more)) boundary end_boundary)

-- ---- a string that begins in a stretch and ends past it

module _ (bytes : List ℕ) (s : Stretch) (is : IsStretch bytes s) (start end : ℕ) (le : s.start ≤ start)
    (more : start ≤ s.start + length s.text.now) (most : s.start + length s.text.now ≤ end)
    (within : end ≤ length bytes) where
  abbrev pub known : ℕ
  known = s.start + length s.text.now

  known_utf8 : IsUtf8 (part bytes s.start known)
  known_utf8 = subst IsUtf8 is.same is.utf8

  front_in : part s.text.now (start - s.start) (length s.text.now) ≡ part bytes start known
  front_in =
      let n : length s.text.now ≡ known - s.start = omega arith in
      ap (part s.text.now (start - s.start)) n ∙ inner bytes s is start known le more (omega arith)

  -- if the string is UTF-8, so is its front, which lies in the stretch
  pub front_utf8 : IsUtf8 (part bytes start end) → IsUtf8 (part s.text.now (start - s.start) (length s.text.now))
  front_utf8 whole = subst IsUtf8 (sym front_in)
      (begins_inside bytes s.start known start end le most within known_utf8 whole)

  -- its rest is also UTF-8
  pub rest_utf8 : IsUtf8 (part s.text.now (start - s.start) (length s.text.now)) → IsUtf8 (part bytes start end)
      → IsUtf8 (part bytes known end)
  rest_utf8 front whole = ends_behind bytes start known end more most within (subst IsUtf8 front_in front) whole

  -- if both are UTF-8, so is the string
  pub both_utf8 : IsUtf8 (part s.text.now (start - s.start) (length s.text.now)) → IsUtf8 (part bytes known end)
      → IsUtf8 (part bytes start end)
  both_utf8 front rest = joined_utf8 bytes start known end more most (subst IsUtf8 front_in front) rest

  -- the stretch and the rest are UTF-8 together
  pub more_utf8 : IsUtf8 (part bytes known end) → IsUtf8 (part bytes s.start end)
  more_utf8 rest = joined_utf8 bytes s.start known end (omega arith) most known_utf8 rest
