-- Where a line ends.
use Rattle.std.proofs.Common.{◌≡◌, refl, ℕ, zero, suc, ◌+◌, ◌-◌, ◌<◌, ◌≤◌, true, false, List, [], ◌∷◌}
use Rattle.std.proofs.Common.{◌≢◌, ◌++◌, length, get_or, take, drop, arith, inl, inr, length-drop, Option, Some, None}
use Rattle.std.proofs.lemmas.Bool.{cases_lt, false_from_ne_true}
use Rattle.bstr.specs.Find.{IsFirstByte}
use Rattle.devices.specs.Seeking.{IsKnownEnd, HasNoEnd}
use Rattle.std.proofs.lemmas.List.{append-nil, get_or-drop, drop-drop, take_all, drop_all}
use Rattle.std.specs.List.{slice_index}
use Rattle.devices.specs.Lines.{is_line_end, lines}
use Rattle.devices.specs.Incoming.{Incoming, LacksEnd, EndsLine}

-- a line that ends in the first LF of a text
ends_at : (xs text : List ℕ) (n : ℕ) → n < length xs → ((k : ℕ) → k < n → is_line_end (get_or xs k 0) ≡ false)
    → is_line_end (get_or xs n 0) ≡ true → lines (xs ++ text) ≡ take (suc n) xs ∷ lines (drop (suc n) xs ++ text)
ends_at [] text n lt fails passes = absurd (omega arith)
ends_at (x ∷ xs) text zero lt fails passes = rw passes refl
ends_at (x ∷ xs) text (suc n) lt fails passes =
    let head : is_line_end x ≡ false = fails 0 (omega arith) in
    rw (head, ends_at xs text n (omega arith) (λ k l. fails (suc k) (omega arith)) passes) refl

-- a text without LF is one line
pub one_line : (xs : List ℕ) → 0 < length xs → ((k : ℕ) → k < length xs → is_line_end (get_or xs k 0) ≡ false)
    → lines xs ≡ xs ∷ []
one_line [] some fails = absurd (omega arith)
one_line (x ∷ []) some fails = let head : is_line_end x ≡ false = fails 0 (omega arith) in rw head refl
one_line (x ∷ y ∷ ys) some fails =
    let head : is_line_end x ≡ false = fails 0 (omega arith) in
    rw (head, one_line (y ∷ ys) (omega arith) (λ k l. fails (suc k) (omega arith))) refl

-- there is no LF after a offset
pub lacks_behind : (xs : List ℕ) (from to : ℕ) → LacksEnd xs from to → (k : ℕ) → from + k < to
    → is_line_end (get_or (drop from xs) k 0) ≡ false
lacks_behind xs from to lacks k lt = rw (get_or-drop from xs k 0) (lacks (from + k) (omega arith) lt)

-- a line ends after its LF
pub line_at : (input : Incoming) (from offset : ℕ) → from ≤ offset → offset < length input.left
    → LacksEnd input.left from offset → is_line_end (slice_index input.left offset) ≡ true
    → EndsLine input from (offset + 1)
line_at input from offset low high lacks ends =
    let n : ℕ = offset - from in
    let here : from + n ≡ offset = omega arith in
    let past : offset + 1 - from ≡ suc n = omega arith in
    let far : from + suc n ≡ offset + 1 = omega arith in
    let there : is_line_end (get_or (drop from input.left) n 0) ≡ true = rw (get_or-drop from input.left n 0, here)
    ends in
    record {
      some = omega arith;
      within = omega arith;
      cut = λ text may. rw (past, ← far, ← drop-drop (suc n) from input.left)
          (ends_at (drop from input.left) text n (omega (arith, length-drop from input.left))
          (λ k l. lacks_behind input.left from offset lacks k (omega arith)) there);
    }

-- the last line ends where the input does
pub line_last : (input : Incoming) (from : ℕ) → from < length input.left
    → LacksEnd input.left from (length input.left) → input.ended ≡ true → EndsLine input from (length input.left)
line_last input from some lacks ended = record {
  some = some;
  within = omega arith;
  cut = λ text may. rw (
    may ended,
    append-nil,
    drop_all (length input.left) input.left (omega arith),
    take_all (length input.left - from) (drop from input.left) (omega (arith, length-drop from input.left)),
  )
      (one_line (drop from input.left) (omega (arith, length-drop from input.left))
      (λ k l. lacks_behind input.left from (length input.left) lacks k (omega (arith, length-drop from input.left))));
}

-- ---- a search for an LF after the bytes that were searched before

-- what follows a offset, as a part of a text that reaches to its end
pub rest_is : (xs : List ℕ) (from : ℕ) → take (length xs - from) (drop from xs) ≡ drop from xs
rest_is xs from = take_all (length xs - from) (drop from xs) (omega (arith, length-drop from xs))

abbrev Finds : Incoming → ℕ → Option ℕ → Type 0
Finds input searched found = IsFirstByte is_line_end (drop searched input.left) found

lacks_both : (xs : List ℕ) (from to end : ℕ) → LacksEnd xs from to → LacksEnd xs to end → LacksEnd xs from end
lacks_both xs from to end before behind k low high = elim (cases_lt k to) [
  | inl lt ↦ before k low lt
  | inr le ↦ behind k le high
]

-- what was searched lacks LF up to such a offset
searched_to : (xs : List ℕ) (searched n : ℕ) → ((k : ℕ) → k < n → is_line_end (get_or (drop searched xs) k 0) ≢ true)
    → LacksEnd xs searched (searched + n)
searched_to xs searched n fails k low high =
    let j : ℕ = k - searched in
    let at : searched + j ≡ k = omega arith in
    rw (← at, ← get_or-drop searched xs j 0) (false_from_ne_true _ (fails j (omega arith)))

pub known_at : (input : Incoming) (from searched at : ℕ) → from ≤ searched → searched ≤ length input.left
    → LacksEnd input.left from searched → Finds input searched (Some at) → IsKnownEnd input from (searched + at + 1)
known_at input from searched at low high lacks found =
    let within : searched + at < length input.left = omega (arith, found.0.high, length-drop searched input.left) in
    let none : LacksEnd input.left from (searched + at) = lacks_both input.left from searched (searched + at) lacks
    (searched_to input.left searched at (λ k lt. found.0.before k (omega arith) lt)) in
    let ends : is_line_end (slice_index input.left (searched + at)) ≡ true = rw (← get_or-drop searched input.left at 0)
    found.1 in
    record {
      line = λ some. line_at input from (searched + at) (omega arith) within none ends;
      none = λ e. absurd (omega arith);
      low = omega arith;
      high = omega arith;
      lacks = λ k from_k lt. none k from_k (omega arith);
    }

lacks_all : (input : Incoming) (from searched : ℕ) → searched ≤ length input.left → LacksEnd input.left from searched
    → Finds input searched None → LacksEnd input.left from (length input.left)
lacks_all input from searched high lacks none =
    let rest : ℕ = length (drop searched input.left) in
    let whole : searched + rest ≡ length input.left = omega (arith, length-drop searched input.left) in
    rw (← whole) (lacks_both input.left from searched (searched + rest) lacks
    (searched_to input.left searched rest (λ k lt. none k (omega arith) lt)))

pub known_at_end : (input : Incoming) (from searched : ℕ) → from ≤ searched → searched ≤ length input.left
    → LacksEnd input.left from searched → Finds input searched None → input.ended ≡ true
    → IsKnownEnd input from (length input.left)
known_at_end input from searched low high lacks none ended =
    let all = lacks_all input from searched high lacks none in
    record {
      line = λ some. line_last input from some all ended;
      none = λ e. (ended, e);
      low = omega arith;
      high = omega arith;
      lacks = λ k from_k lt. all k from_k (omega arith);
    }

pub known_nowhere : (input : Incoming) (from searched : ℕ) → searched ≤ length input.left
    → LacksEnd input.left from searched → Finds input searched None → input.ended ≡ false → HasNoEnd input from
known_nowhere input from searched high lacks none going = record {
  going = going;
  lacks = lacks_all input from searched high lacks none;
}
