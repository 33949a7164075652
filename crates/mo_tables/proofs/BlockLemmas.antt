-- Runs of blocks with the same numbers have the same bytes.
use Rattle.mo_tables.proofs.Kit.{◌≡◌, ◌≢◌, ℕ, zero, suc, ◌+◌, ◌-◌, ◌<◌, List, [], ◌∷◌, ◌++◌, length, get_or, inl, inr}
use Rattle.mo_tables.proofs.Kit.{Some, None, refl, sym, ap, subst, ◌∙◌, arith, cases_lt, part, AreAlike, IsAlike}
use Rattle.mo_tables.proofs.Kit.{AreFirsts}
use Rattle.std.specs.Prelude.{Option}
use Rattle.std.specs.Option.{IfSome, unwrap_or}
use Rattle.std.proofs.lemmas.List.{get_or_append_left, get_or-append_right}
use Rattle.mo_tables.specs.Blocks.{IsText, LacksNul, AreSame}
use Rattle.mo_tables.proofs.PartLemmas.{length-part}
use Rattle.mo_tables.proofs.GapLemmas.{byte_in_part}
use Rattle.mo_tables.proofs.KeyOrder.{both_alike, at_end}

abbrev start : List ℕ → ℕ → ℕ
start starts k = get_or starts k 0

-- the bytes of a block, by their offsets in the file
byte_of : (bytes starts : List ℕ) (k : ℕ) (text : List ℕ) → IsText bytes starts k text → (i : ℕ)
    → start starts k + i < start starts (k + 1) → get_or text i 0 ≡ get_or bytes (start starts k + i) 0
byte_of bytes starts k text is i lt = ap (λ l. get_or l i 0) is.same
    ∙ byte_in_part bytes (start starts k) (start starts (k + 1)) i lt

length_of : (bytes starts : List ℕ) (k : ℕ) (text : List ℕ) → IsText bytes starts k text
    → start starts k + length text ≡ start starts (k + 1)
length_of bytes starts k text is =
    let n : length text ≡ start starts (k + 1) - start starts k = ap length is.same
    ∙ length-part bytes (start starts k) (start starts (k + 1)) is.lies.0 is.lies.1 in
    omega (arith, n, is.lies.0)

abbrev pub Copied : List ℕ → List ℕ → ℕ → ℕ → ℕ → ℕ → ℕ → Type 0
Copied bytes starts distance a b end_a end_b = IsAlike bytes
    (record { distance = distance; from = start starts a; to = start starts end_a })
    × (start starts end_b ≡ start starts end_a + distance)

-- two blocks with one text
copied_text : (bytes starts : List ℕ) (distance a b : ℕ) (text : List ℕ) → IsText bytes starts a text
    → IsText bytes starts b text → LacksNul text → start starts b ≡ start starts a + distance
    → Copied bytes starts distance a b (a + 1) (b + 1)
copied_text bytes starts distance a b text here there whole at =
    let n : start starts a + length text ≡ start starts (a + 1) = length_of bytes starts a text here in
    let m : start starts b + length text ≡ start starts (b + 1) = length_of bytes starts b text there in (
      record {
        rises = here.lies.0;
        within = omega (arith, n, m, at, there.lies.1);
        alike = λ i le lt.
            let x : start starts a + (i - start starts a) ≡ i = omega (arith, le) in
            let y : start starts b + (i - start starts a) ≡ i + distance = omega (arith, le, at) in
            let one : get_or text (i - start starts a) 0 ≡ get_or bytes i 0 =
            byte_of bytes starts a text here (i - start starts a) (omega (arith, le, lt))
            ∙ ap (λ k. get_or bytes k 0) x in
            let two : get_or text (i - start starts a) 0 ≡ get_or bytes (i + distance) 0 =
            byte_of bytes starts b text there (i - start starts a) (omega (arith, le, lt, n, m, at))
            ∙ ap (λ k. get_or bytes k 0) y in
            (sym one ∙ two, λ nul. whole (i - start starts a) (omega (arith, le, lt, n)) (one ∙ nul));
      },
      omega (arith, n, m, at),
    )

-- two blocks with one number
copied_block : (bytes starts firsts : List ℕ) → AreFirsts bytes starts firsts → (distance a b : ℕ)
    → get_or firsts a 0 ≡ get_or firsts b 0 → get_or firsts a 0 ≢ 0 → start starts b ≡ start starts a + distance
    → Copied bytes starts distance a b (a + 1) (b + 1)
copied_block bytes starts firsts are distance a b same some at =
    let one = are a some in
    let two = are b (λ none. some (same ∙ none)) in
    let first : get_or firsts b 0 ≡ get_or firsts a 0 = sym same in
    let text : two.text ≡ one.text = two.there.same
    ∙ ap (λ k. part bytes (start starts k) (start starts (k + 1))) first ∙ sym one.there.same in
    copied_text bytes starts distance a b one.text one.here (subst (IsText bytes starts b) text two.here) one.whole at

-- runs of blocks with the same numbers
copied_run : (bytes starts firsts : List ℕ) → AreFirsts bytes starts firsts → (distance a b n : ℕ)
    → ((k : ℕ) → k < suc n → (get_or firsts (a + k) 0 ≡ get_or firsts (b + k) 0) × (get_or firsts (a + k) 0 ≢ 0))
    → start starts b ≡ start starts a + distance → Copied bytes starts distance a b (a + suc n) (b + suc n)
copied_run bytes starts firsts are distance a b zero same at =
    let one = same 0 (omega arith) in
    let x : a + 0 ≡ a = omega arith in
    let y : b + 0 ≡ b = omega arith in
    let here : get_or firsts (a + 0) 0 ≡ get_or firsts a 0 = ap (λ k. get_or firsts k 0) x in
    let there : get_or firsts (b + 0) 0 ≡ get_or firsts b 0 = ap (λ k. get_or firsts k 0) y in
    copied_block bytes starts firsts are distance a b (sym here ∙ one.0 ∙ there) (λ none. one.1 (here ∙ none)) at
copied_run bytes starts firsts are distance a b (suc n) same at =
    let run = copied_run bytes starts firsts are distance a b n (λ k lt. same k (omega (arith, lt))) at in
    let next = same (suc n) (omega arith) in
    let more = copied_block bytes starts firsts are distance (a + suc n) (b + suc n) next.0 next.1 run.1 in
    let x : a + suc n + 1 ≡ a + suc (suc n) = omega arith in
    let y : b + suc n + 1 ≡ b + suc (suc n) = omega arith in
    let whole = both_alike bytes
    (record { distance = distance; from = start starts a; to = start starts (a + suc n) })
    (record { distance = distance; from = start starts (a + suc n); to = start starts (a + suc n + 1) }) run.0 more.0
    refl (omega arith) more.0.rises in
    subst (λ k. Copied bytes starts distance a b k (b + suc (suc n))) x
    (subst (λ k. Copied bytes starts distance a b (a + suc n + 1) k) y (whole, more.1))

-- the same of the rests of the list of numbers
pub copied : (bytes starts firsts : List ℕ) → AreFirsts bytes starts firsts → (distance a b n : ℕ)
    → AreAlike (part firsts a (length firsts)) (part firsts b (length firsts)) n → 0 < n
    → start starts b ≡ start starts a + distance
    → IsAlike bytes (record { distance = distance; from = start starts a; to = start starts (a + n) })
copied bytes starts firsts are distance a b zero alike some at = absurd (omega (arith, some))
copied bytes starts firsts are distance a b (suc n) alike some at = (copied_run bytes starts firsts are distance a b n
    (λ k lt.
    let both = alike k lt in
    let here = at_end firsts a k in
    (sym here ∙ both.0 ∙ at_end firsts b k, λ none. both.1 (here ∙ none)))
    at).0

-- ---- one more number

last_number : (bytes starts firsts : List ℕ) (number k i x : ℕ)
    → (number ≢ 0 → AreSame bytes starts (length firsts) number) → k ≡ length firsts + i
    → x ≡ get_or (number ∷ []) i 0 → x ≢ 0 → AreSame bytes starts k x
last_number bytes starts firsts number k zero x new at is some =
    let n : length firsts ≡ k = omega (arith, at) in
    subst (λ f. AreSame bytes starts k f) (sym is)
    (subst (λ p. AreSame bytes starts p number) n (new (λ none. some (is ∙ none))))
last_number bytes starts firsts number k (suc i) x new at is some = absurd (some is)

pub one_more : (bytes starts firsts : List ℕ) (number : ℕ) → AreFirsts bytes starts firsts
    → (number ≢ 0 → AreSame bytes starts (length firsts) number) → AreFirsts bytes starts (firsts ++ number ∷ [])
one_more bytes starts firsts number are new k some = elim (cases_lt k (length firsts)) [
  | inl before ↦
      let old : get_or (firsts ++ number ∷ []) k 0 ≡ get_or firsts k 0 =
      get_or_append_left firsts (number ∷ []) 0 k before in
      subst (AreSame bytes starts k) (sym old) (are k (λ none. some (old ∙ none)))
  | inr behind ↦
      last_number bytes starts firsts number k (k - length firsts) (get_or (firsts ++ number ∷ []) k 0) new
      (omega (arith, behind)) (get_or-append_right firsts (number ∷ []) (length firsts) k 0 refl behind) some
]

-- the number that is stored for a block, by what was found
pub number_of : (bytes starts : List ℕ) (k : ℕ) (found : Option ℕ) → IfSome found (AreSame bytes starts k)
    → unwrap_or found 0 ≢ 0 → AreSame bytes starts k (unwrap_or found 0)
number_of bytes starts k (Some first) same some = same
number_of bytes starts k None same some = absurd (some refl)
