-- Words in texts, and what follows them.
use Rattle.std.proofs.Common.{◌≡◌, ◌≢◌, ℕ, zero, suc, ◌+◌, ◌<◌, ◌≤◌, true, false, List, [], ◌∷◌, ◌++◌}
use Rattle.std.proofs.Common.{drop, length, Some, None, subst, refl, sym, ap, ◌∙◌, arith, inl, inr, length-append}
use Rattle.std.specs.Prelude.{nat_eq}
use Rattle.std.specs.List.{starts_with}
use Rattle.std.specs.Str.Pattern.{LacksTextAt, HasTextAt}
use Rattle.std.proofs.lemmas.Bool.{cases_Bool}
use Rattle.std.proofs.lemmas.Bool.Decides.{Decides-eqb}
use Rattle.std.proofs.lemmas.Slice.Eq.{starts_is}
use Rattle.std.proofs.Math.Seq.{drop-append_seam}
use Rattle.message.specs.Charset.{Follows, LacksWord}
use Rattle.po_header.specs.Searching.{behind_first}

pub begins_with : (word text rest : List ℕ) → text ≡ word ++ rest → starts_with nat_eq text word ≡ true
begins_with word text rest e = (starts_is Decides-eqb text word (starts_with nat_eq text word) refl).1 rest e

pub rest_behind : (word text : List ℕ) → starts_with nat_eq text word ≡ true → text ≡ word ++ drop (length word) text
rest_behind word text e = (starts_is Decides-eqb text word (starts_with nat_eq text word) refl).0 e

pub begins_not : (word text : List ℕ) → ((rest : List ℕ) → text ≢ word ++ rest) → starts_with nat_eq text word ≡ false
begins_not word text h = elim (cases_Bool (starts_with nat_eq text word)) [
  | inl found ↦ absurd (h (drop (length word) text) (rest_behind word text found))
  | inr other ↦ other
]

no_word : (word rest : List ℕ) → 0 < length word → [] ≡ word ++ rest → ⊥
no_word word rest some e = absurd (omega (arith, length-append word rest, ap length e))

pub behind_first-found : (i : ℕ) (word text : List ℕ) → 0 < length word → ((k : ℕ) → k < i → LacksTextAt word text k)
    → drop i text ≡ word ++ drop (i + length word) text → behind_first word text ≡ Some (drop (i + length word) text)
behind_first-found zero word [] some lacks has = absurd (no_word word _ some has)
behind_first-found zero word (b ∷ text) some lacks has =
    let n : zero + length word ≡ length word = omega arith in
    rw (begins_with word (b ∷ text) _ has, n) refl
behind_first-found (suc i) word [] some lacks has = absurd (no_word word _ some has)
behind_first-found (suc i) word (b ∷ text) some lacks has =
    let n : suc i + length word ≡ suc (i + length word) = omega arith in
    let first : LacksTextAt word (b ∷ text) 0 = lacks 0 (omega arith) in
    rw (begins_not word (b ∷ text) first, n) (behind_first-found i word text some (λ k lt. lacks (suc k) (omega arith))
    (rw n at has))

pub behind_first-none : (text word : List ℕ) → 0 < length word → ((k : ℕ) → k ≤ length text → LacksTextAt word text k)
    → behind_first word text ≡ None
behind_first-none [] word some lacks = refl
behind_first-none (b ∷ text) word some lacks =
    let first : LacksTextAt word (b ∷ text) 0 = lacks 0 (omega arith) in
    rw (begins_not word (b ∷ text) first) (behind_first-none text word some (λ k le. lacks (suc k) (omega arith)))

-- as `split_once` finds the word
pub behind_first-split : (word text back : List ℕ) (i j : ℕ) → 0 < length word
    → ((k : ℕ) → k < i → LacksTextAt word text k) → HasTextAt word text i j → back ≡ drop j text
    → behind_first word text ≡ Some back
behind_first-split word text back i j some lacks has e =
    let split : drop i text ≡ word ++ drop (i + length word) text = has.split
    ∙ ap (λ (k : ℕ). word ++ drop k text) has.ends in
    behind_first-found i word text some lacks split ∙ ap Some (ap (λ (k : ℕ). drop k text) (sym has.ends) ∙ sym e)

-- ---- the function, and the relations that say what it is

front_case : (word text : List ℕ) (b : ℕ) → starts_with nat_eq (b ∷ text) word ≡ true
    → Follows word (b ∷ text) (drop (length word) (b ∷ text))
front_case word text b found = ([], record { split = rest_behind word (b ∷ text) found; first = λ c a e. omega arith })

shorter_first : (word text before : List ℕ) (b : ℕ) → starts_with nat_eq (b ∷ text) word ≡ false
    → ((c a : List ℕ) → text ≡ c ++ word ++ a → length before ≤ length c) → (c a : List ℕ) → b ∷ text ≡ c ++ word ++ a
    → length (b ∷ before) ≤ length c
shorter_first word text before b other first [] a e = let f = begins_with word (b ∷ text) a e in absurd (cc (other, f))
shorter_first word text before b other first (x ∷ c) a e = let le = first c a (cc e) in omega (arith, le)

later_case : (word text after : List ℕ) (b : ℕ) → starts_with nat_eq (b ∷ text) word ≡ false → Follows word text after
    → Follows word (b ∷ text) after
later_case word text after b other (before, s) = (
  b ∷ before,
  record
      { split = ap (λ (t : List ℕ). b ∷ t) s.split; first = shorter_first word text before b other s.first },
)

pub follows_is : (word text after : List ℕ) → behind_first word text ≡ Some after → Follows word text after
follows_is word [] after e = absurd (cc e)
follows_is word (b ∷ text) after e = elim (cases_Bool (starts_with nat_eq (b ∷ text) word)) [
  | inl found ↦
      let f : Some (drop (length word) (b ∷ text)) ≡ Some after = rw found at e in
      let same : drop (length word) (b ∷ text) ≡ after = cc f in
      subst (λ (t : List ℕ). Follows word (b ∷ text) t) same (front_case word text b found)
  | inr other ↦
      let f : behind_first word text ≡ Some after = rw other at e in
      later_case word text after b other (follows_is word text after f)
]

pub lacks_is : (word text : List ℕ) → 0 < length word → behind_first word text ≡ None → LacksWord word text
lacks_is word [] some none before after e = absurd (omega (
  arith,
  ap length e,
  length-append (before ++ word) after,
  length-append before word,
))
lacks_is word (b ∷ text) some none [] after e =
    let found = begins_with word (b ∷ text) after e in
    let f : Some (drop (length word) (b ∷ text)) ≡ None = rw found at none in
    absurd (cc f)
lacks_is word (b ∷ text) some none (x ∷ before) after e = elim (cases_Bool (starts_with nat_eq (b ∷ text) word)) [
  | inl found ↦ let f : Some (drop (length word) (b ∷ text)) ≡ None = rw found at none in absurd (cc f)
  | inr other ↦ let f : behind_first word text ≡ None = rw other at none in lacks_is word text some f before after
      (cc e)
]

after_is : (word text before after : List ℕ) → text ≡ before ++ word ++ after → after
    ≡ drop (length before + length word) text
after_is word text before after e = sym (drop-append_seam (before ++ word) after)
    ∙ rw (length-append before word, e) refl

-- at most one text follows the first occurrence
pub Follows-one : (word text after other : List ℕ) → Follows word text after → Follows word text other → after ≡ other
Follows-one word text after other (b, s) (c, t) =
    let le = s.first c other t.split in
    let ge = t.first b after s.split in
    let same : length b ≡ length c = omega (arith, le, ge) in
    after_is word text b after s.split ∙ rw (same, ← after_is word text c other t.split) refl

pub Follows-lacks : (word text after : List ℕ) → Follows word text after → LacksWord word text → ⊥
Follows-lacks word text after (before, s) lacks = lacks before after s.split
