-- The steps on the words of a book keep its rule.
use Rattle.std.proofs.Common.{◌≡◌, ◌≢◌, ℕ, zero, suc, ◌+◌, ◌*◌, ◌/◌, ◌<◌, ◌≤◌, ◌^◌, ◌==◌, Bool, true, false, List, []}
use Rattle.std.proofs.Common.{◌∷◌, ◌++◌, length, refl, ap, length-set}
use Rattle.std.proofs.Common.{sym, subst, ◌∙◌, arith, inl, inr, None, length-append}
use Rattle.std.specs.Prelude.{slice_set}
use Rattle.std.proofs.lemmas.List.{append-nil, get_or_append_left, get_or-set_same, get_or-set_other}
use Rattle.std.proofs.lemmas.Bool.Decides.{nat_tests}
use lib.Dec.{leb}
use mathlib.Core.List.{IsPrefix}
use prog.Atomic.{either}
use Rattle.logbook.specs.Pages.{Cell, cell, keeps, gives, adds, Nib, nib, no_nib, may_write, may_make, step, Moves}
use Rattle.logbook.specs.Pages.{Goes}
use Rattle.live_set.specs.Loads.{LoadValue}
use Rattle.snapshot_store.specs.SlotBook.{Event, AreGiven, IsKept, Begins, Adds, Shows, Looks, Waits, batches_of}
use Rattle.snapshot_store.specs.SlotBook.{shown_of}
use Rattle.snapshot_store.proofs.Ordering.{whole}
use Rattle.snapshot_store.proofs.Events.{batches_made, batches_shown, shown_made, shown_shown, batches_prefix}
use Rattle.snapshot_store.proofs.Events.{length_prefix}

abbrev Log : Type 0
Log = List Event

abbrev pub clients : Log → Log
clients log = []

abbrev pub moved : Log → Log → ℕ → Type 0
moved xs ys n = Unit {0}

-- the words of a book
abbrev words_of : Log → List Cell → ℕ → List Cell
words_of log turns at = (length turns, true) ∷ (shown_of log * 64 + at, true) ∷ turns

-- the rule, of words that are these
record Keeps (turns : List Cell) (log : Log) (at : ℕ) : Type 0 where
  pub slot : at < 64
  pub given : AreGiven turns log
  pub used : (n : ℕ) → n < shown_of log → (cell turns n).1 ≡ true
  pub made : shown_of log ≤ length (batches_of log)
  pub fits : length (batches_of log) < 2 ^ 58

-- words that stay as they are keep the rule
same : (log : Log) (turns : List Cell) (at first second : ℕ) → Keeps turns log at → first ≡ length turns
    → second ≡ shown_of log * 64 + at → IsKept ((first, true) ∷ (second, true) ∷ turns) (log ++ [])
same log turns at first second kept one two =
    subst (λ (l : Log). IsKept ((first, true) ∷ (second, true) ∷ turns) l) (sym (append-nil log)) (record {
      at = at;
      turns = turns;
      words = λ i. (one i, true) ∷ (two i, true) ∷ turns;
      slot = kept.slot;
      given = kept.given;
      used = kept.used;
      made = kept.made;
      fits = kept.fits;
    })

-- ---- the first turn

begins_goes : (log v : Log) (a : Event) (turns : List Cell) (at : ℕ) → Keeps turns log at → (b : Bool)
    → (length turns == 0) ≡ b
    → Goes IsKept clients moved 0 (v, (no_nib, None)) (λ n. either (n == 0) 1 n)
    (Begins (step 0 0 1 a) (v, (no_nib, None))) (words_of log turns at) log
begins_goes log v a turns at kept true is =
    let none : length turns ≡ 0 = grind (arith, nat_tests) in
    let more : length (turns ++ (0, false) ∷ []) ≡ length turns + 1 = length-append turns ((0, false) ∷ []) in
    let empty : length (batches_of log) ≡ 0 = without kept.given none in
    let n : either (length turns == 0) 1 (length turns) ≡ length (turns ++ (0, false) ∷ []) =
    rw is (omega (arith, more, none)) in (
      adds,
      [],
      None,
      tt,
      subst (λ (l : Log). IsKept ((either (length turns == 0) 1 (length turns), true)
          ∷ (shown_of log * 64 + at, true) ∷ (turns ++ (0, false) ∷ [])) l) (sym (append-nil log)) (record {
            at = at;
            turns = turns ++ (0, false) ∷ [];
            words = ap (λ (k : ℕ). (k, true) ∷ (shown_of log * 64 + at, true) ∷ (turns ++ (0, false) ∷ [])) n;
            slot = kept.slot;
            given = inl (omega (arith, more, none, empty));
            used = λ k lt. absurd (omega (arith, lt, kept.made, empty));
            made = kept.made;
            fits = kept.fits;
          }),
      inl (refl, refl),
      (λ found. ap (λ (k : ℕ). nib may_make (suc (suc k)) 0) none),
    ) where
      without : AreGiven turns log → length turns ≡ 0 → length (batches_of log) ≡ 0
      without (inl some) none = absurd (omega (arith, some, none))
      without (inr (same, empty)) none = empty
begins_goes log v a turns at kept false is =
    let n : either (length turns == 0) 1 (length turns) ≡ length turns = rw is refl in (
      keeps,
      [],
      None,
      tt,
      same log turns at (either (length turns == 0) 1 (length turns)) (shown_of log * 64 + at) kept n refl,
      inl (refl, refl),
      (λ (found : length turns ≡ 0). absurd (grind (arith, nat_tests, is, found))),
    )

pub begins_moves : (v : Log) (a : Event)
    → Moves IsKept clients moved 0 (v, (no_nib, None)) (λ n. either (n == 0) 1 n)
    (Begins (step 0 0 1 a) (v, (no_nib, None)))
begins_moves v a cs log kept pre away =
    let P : List Cell → Type 0 = λ c. (0 < length c) × ((cell c 0).1 ≡ true)
    × Goes IsKept clients moved 0 (v, (no_nib, None)) (λ n. either (n == 0) 1 n)
    (Begins (step 0 0 1 a) (v, (no_nib, None))) c log in
    subst P (sym kept.words) (
      omega arith,
      refl,
      begins_goes log v a kept.turns kept.at (record {
        slot = kept.slot;
        given = kept.given;
        used = kept.used;
        made = kept.made;
        fits = kept.fits;
      }) (length kept.turns == 0) refl,
    )

-- ---- a batch

-- as many batches were made as turns were given
batches_made_by : (log : Log) (turns : List Cell) (n : ℕ) → AreGiven turns log → length turns ≡ n + 1
    → length (batches_of log) ≡ n
batches_made_by log turns n (inl given) is = omega (arith, given, is)
batches_made_by log turns n (inr (none, empty)) is = absurd (omega (arith, none, is))

adds_goes : (log v : Log) (t : List LoadValue) (a : Event) (n : ℕ) (turns : List Cell) (at : ℕ)
    → length (batches_of v) ≡ n → n + 1 < 2 ^ 58 → Keeps turns log at → IsPrefix v log → (b : Bool)
    → (length turns == (n + 1)) ≡ b
    → Goes IsKept clients moved 0 (v, (no_nib, None)) (λ k. either (k == (n + 1)) (n + 1 + 1) k)
    (Adds t (step 0 (n + 1) (n + 1 + 1) a) (v, (no_nib, None))) (words_of log turns at) log
adds_goes log v t a n turns at len room kept pre true is =
    let here : length turns ≡ n + 1 = grind (arith, nat_tests) in
    let count : length (batches_of log) ≡ n = batches_made_by log turns n kept.given here in
    let p = batches_prefix v log pre in
    let same : batches_of log ≡ batches_of v = whole (batches_of log) (batches_of v) (p.0, sym p.1) (count ∙ sym len) in
    let grown = batches_made log t in
    let shown = shown_made log t in
    let more : length (batches_of (log ++ (0, t) ∷ [])) ≡ length (batches_of log) + 1 = omega
    (arith, ap (length {A = List LoadValue}) grown, length-append (batches_of log) (t ∷ [])) in
    let longer : length (turns ++ (0, false) ∷ []) ≡ length turns + 1 = length-append turns ((0, false) ∷ []) in
    let k : either (length turns == (n + 1)) (n + 1 + 1) (length turns) ≡ length (turns ++ (0, false) ∷ []) =
    rw is (omega (arith, longer, here)) in (
      adds,
      (0, t) ∷ [],
      None,
      tt,
      record {
        at = at;
        turns = turns ++ (0, false) ∷ [];
        words = λ i. (k i, true) ∷ (sym shown i * 64 + at, true) ∷ (turns ++ (0, false) ∷ []);
        slot = kept.slot;
        given = inl (omega (arith, longer, more, here, count));
        used = λ m lt. ap (λ (c : Cell). c.1) (get_or_append_left turns ((0, false) ∷ []) (0, false) m
            (omega (arith, lt, shown, kept.made, count, here))) ∙ kept.used m (omega (arith, lt, shown));
        made = omega (arith, kept.made, more, shown);
        fits = omega (arith, more, count, room);
      },
      inl (refl, refl),
      (λ found. (
        grown ∙ ap (λ (w : List (List LoadValue)). w ++ t ∷ []) same,
        ap (λ (m : ℕ). nib may_make (suc (suc m)) 0) here,
      )),
    )
adds_goes log v t a n turns at len room kept pre false is =
    let k : either (length turns == (n + 1)) (n + 1 + 1) (length turns) ≡ length turns = rw is refl in (
      keeps,
      [],
      None,
      tt,
      same log turns at (either (length turns == (n + 1)) (n + 1 + 1) (length turns)) (shown_of log * 64 + at) kept k
          refl,
      inl (refl, refl),
      (λ (found : length turns ≡ n + 1). absurd (grind (arith, nat_tests, is, found))),
    )

pub adds_moves : (v : Log) (t : List LoadValue) (a : Event) (n : ℕ) → length (batches_of v) ≡ n → n + 1 < 2 ^ 58
    → Moves IsKept clients moved 0 (v, (no_nib, None)) (λ k. either (k == (n + 1)) (n + 1 + 1) k)
    (Adds t (step 0 (n + 1) (n + 1 + 1) a) (v, (no_nib, None)))
adds_moves v t a n len room cs log kept pre away =
    let P : List Cell → Type 0 = λ c. (0 < length c) × ((cell c 0).1 ≡ true)
    × Goes IsKept clients moved 0 (v, (no_nib, None)) (λ k. either (k == (n + 1)) (n + 1 + 1) k)
    (Adds t (step 0 (n + 1) (n + 1 + 1) a) (v, (no_nib, None))) c log in
    subst P (sym kept.words) (
      omega arith,
      refl,
      adds_goes log v t a n kept.turns kept.at len room (record {
        slot = kept.slot;
        given = kept.given;
        used = kept.used;
        made = kept.made;
        fits = kept.fits;
      }) pre (length kept.turns == (n + 1)) refl,
    )

-- ---- a version is shown

-- the cell of the turn that is used comes home
used_by : (log : Log) (turns : List Cell) (m value k : ℕ) (b : Bool) → (k == m) ≡ b → m < length turns
    → ((n : ℕ) → n < m → (cell turns n).1 ≡ true) → k < m + 1 → (cell (slice_set turns m (value, true)) k).1 ≡ true
used_by log turns m value k true is inside used lt =
    let here : k ≡ m = grind (arith, nat_tests) in
    subst (λ (j : ℕ). (cell (slice_set turns m (value, true)) j).1 ≡ true) (sym here)
    (ap (λ (c : Cell). c.1) (get_or-set_same turns m (value, true) (0, false) inside))
used_by log turns m value k false is inside used lt =
    let other : k ≢ m = λ same. absurd (grind (arith, nat_tests, is, same)) in
    ap (λ (c : Cell). c.1) (get_or-set_other turns m k (value, true) (0, false) other)
    ∙ used k (omega (arith, lt, other))

given_still : (log longer : Log) (turns later : List Cell) → AreGiven turns log → length later ≡ length turns
    → batches_of longer ≡ batches_of log → AreGiven later longer
given_still log longer turns later (inl given) same batches =
    inl (omega (arith, given, same, ap (length {A = List LoadValue}) batches))
given_still log longer turns later (inr (none, empty)) same batches =
    inr (same ∙ none, ap (length {A = List LoadValue}) batches ∙ empty)

shows_goes : (log v : Log) (n m old new_at value : ℕ) (a : Event) (turns : List Cell) (at : ℕ)
    → length (batches_of v) ≡ n → n ≡ m + 1 → m ≡ old / 64 → new_at < 64 → Keeps turns log at → IsPrefix v log
    → m < length turns → (b : Bool) → ((shown_of log * 64 + at) == old) ≡ b
    → Goes IsKept clients moved 1 (v, (nib may_write (suc (suc m)) value, None))
    (λ k. either (k == old) (n * 64 + new_at) k)
    (Shows n (step 1 old (n * 64 + new_at) a) (v, (nib may_write (suc (suc m)) value, None)))
    (words_of log turns at) log
shows_goes log v n m old new_at value a turns at len one next slot kept pre inside true is =
    let here : shown_of log * 64 + at ≡ old = grind (arith, nat_tests) in
    let before : shown_of log ≡ m = omega (arith, here, next, kept.slot) in
    let long = length_prefix v log pre in
    let same = batches_shown log n [] (omega (arith, one)) in
    let last = shown_shown log n [] (omega (arith, before, one)) in
    let size : length (slice_set turns m (value, true)) ≡ length turns = length-set turns m (value, true) in
    let k : either ((shown_of log * 64 + at) == old) (n * 64 + new_at) (shown_of log * 64 + at)
    ≡ shown_of (log ++ (n, []) ∷ []) * 64 + new_at = rw is (ap (λ (j : ℕ). j * 64 + new_at) (sym last)) in (
      gives,
      (n, []) ∷ [],
      None,
      refl,
      record {
        at = new_at;
        turns = slice_set turns m (value, true);
        words = λ i. (sym size i, true) ∷ (k i, true) ∷ slice_set turns m (value, true);
        slot = slot;
        given = given_still log (log ++ (n, []) ∷ []) turns (slice_set turns m (value, true)) kept.given size same;
        used = λ j lt. used_by log turns m value j (j == m) refl inside
            (λ k below. kept.used k (omega (arith, below, before))) (omega (arith, lt, last, one));
        made = omega (arith, last, ap (length {A = List LoadValue}) same, long, len);
        fits = omega (arith, ap (length {A = List LoadValue}) same, kept.fits);
      },
      inl (refl, refl),
      ((λ found. omega (arith, last)), (λ other. absurd (other here))),
    )
shows_goes log v n m old new_at value a turns at len one next slot kept pre inside false is =
    let k : either ((shown_of log * 64 + at) == old) (n * 64 + new_at) (shown_of log * 64 + at)
    ≡ shown_of log * 64 + at = rw is refl in (
      keeps,
      [],
      None,
      tt,
      same log turns at (length turns)
          (either ((shown_of log * 64 + at) == old) (n * 64 + new_at) (shown_of log * 64 + at)) kept refl k,
      inl (refl, refl),
      (
        (λ (found : shown_of log * 64 + at ≡ old). absurd (grind (arith, nat_tests, is, found))),
        (λ other. refl),
      ),
    )

pub shows_moves : (v : Log) (n m old new_at value : ℕ) (a : Event) → length (batches_of v) ≡ n → n ≡ m + 1
    → m ≡ old / 64 → new_at < 64
    → Moves IsKept clients moved 1 (v, (nib may_write (suc (suc m)) value, None))
    (λ k. either (k == old) (n * 64 + new_at) k)
    (Shows n (step 1 old (n * 64 + new_at) a) (v, (nib may_write (suc (suc m)) value, None)))
shows_moves v n m old new_at value a len one next slot cs log kept pre away =
    let P : List Cell → Type 0 = λ c. (1 < length c) × ((cell c 1).1 ≡ true)
    × Goes IsKept clients moved 1 (v, (nib may_write (suc (suc m)) value, None))
    (λ k. either (k == old) (n * 64 + new_at) k)
    (Shows n (step 1 old (n * 64 + new_at) a) (v, (nib may_write (suc (suc m)) value, None))) c log in
    let within : suc (suc m) < length (words_of log kept.turns kept.at) =
    subst (λ (c : List Cell). suc (suc m) < length c) kept.words (away refl).0 in
    subst P (sym kept.words) (
      omega arith,
      refl,
      shows_goes log v n m old new_at value a kept.turns kept.at len one next slot (record {
        slot = kept.slot;
        given = kept.given;
        used = kept.used;
        made = kept.made;
        fits = kept.fits;
      }) pre (omega (arith, within)) ((shown_of log * 64 + kept.at) == old) refl,
    )

-- ---- a look

looks_goes : (log v : Log) (a : Event) (turns : List Cell) (at : ℕ) → Keeps turns log at
    → Goes IsKept clients moved 1 (v, (no_nib, None)) (λ k. k) (Looks (step 1 0 0 a) (v, (no_nib, None)))
    (words_of log turns at) log
looks_goes log v a turns at kept =
    let low : (shown_of log * 64 + at) / 64 ≡ shown_of log = omega (arith, kept.slot) in (
      keeps,
      [],
      None,
      tt,
      same log turns at (length turns) (shown_of log * 64 + at) kept refl refl,
      inl (refl, refl),
      subst (λ (l : Log). (shown_of log * 64 + at) / 64 ≡ shown_of l) (sym (append-nil log)) low,
    )

pub looks_moves : (v : Log) (a : Event)
    → Moves IsKept clients moved 1 (v, (no_nib, None)) (λ k. k) (Looks (step 1 0 0 a) (v, (no_nib, None)))
looks_moves v a cs log kept pre away =
    let P : List Cell → Type 0 = λ c. (1 < length c) × ((cell c 1).1 ≡ true)
    × Goes IsKept clients moved 1 (v, (no_nib, None)) (λ k. k) (Looks (step 1 0 0 a) (v, (no_nib, None))) c log in
    subst P (sym kept.words) (
      omega arith,
      refl,
      looks_goes log v a kept.turns kept.at (record {
        slot = kept.slot;
        given = kept.given;
        used = kept.used;
        made = kept.made;
        fits = kept.fits;
      }),
    )

-- ---- a turn that isn't used

-- a turn of which the cell isn't at home has more than the versions that are shown before it
not_used : (log : Log) (turns : List Cell) (n : ℕ) (b : Bool) → leb (suc n) (shown_of log) ≡ b
    → ((k : ℕ) → k < shown_of log → (cell turns k).1 ≡ true) → (cell turns n).1 ≡ false → shown_of log ≤ n
not_used log turns n true is used away =
    let lt : n < shown_of log = grind (arith, nat_tests) in
    absurd (cc (used n lt, away))
not_used log turns n false is used away = grind (arith, nat_tests)

bounded : (log : Log) (turns : List Cell) (at key : ℕ) → Keeps turns log at
    → (cell (words_of log turns at) key).1 ≡ false → shown_of log + 2 ≤ key
bounded log turns at zero kept away = absurd (cc away)
bounded log turns at (suc zero) kept away = absurd (cc away)
bounded log turns at (suc (suc n)) kept away =
    let le = not_used log turns n (leb (suc n) (shown_of log)) refl kept.used away in
    omega (arith, le)

waits_goes : (log v : Log) (a : Event) (p : Nib) (turns : List Cell) (at : ℕ) → Keeps turns log at
    → (p.right ≡ may_write → (cell (words_of log turns at) p.key).1 ≡ false) → (b : Bool) → (length turns == 0) ≡ b
    → Goes IsKept clients moved 0 (v, (p, None)) (λ n. either (n == 0) 0 n) (Waits (step 0 0 0 a) (v, (p, None)))
    (words_of log turns at) log
waits_goes log v a p turns at kept away b is = (
  keeps,
  [],
  None,
  tt,
  same log turns at (either (length turns == 0) 0 (length turns)) (shown_of log * 64 + at) kept (kept_by b is) refl,
  inl (refl, refl),
  (
    refl,
    (λ right. subst (λ (l : Log). shown_of l + 2 ≤ p.key) (sym (append-nil log))
        (bounded log turns at p.key kept (away right))),
  ),
) where
  kept_by : (b : Bool) → (length turns == 0) ≡ b → either (length turns == 0) 0 (length turns) ≡ length turns
  kept_by true is = let none : length turns ≡ 0 = grind (arith, nat_tests) in rw is (sym none)
  kept_by false is = rw is refl

pub waits_moves : (v : Log) (a : Event) (p : Nib)
    → Moves IsKept clients moved 0 (v, (p, None)) (λ n. either (n == 0) 0 n) (Waits (step 0 0 0 a) (v, (p, None)))
waits_moves v a p cs log kept pre away =
    let P : List Cell → Type 0 = λ c. (0 < length c) × ((cell c 0).1 ≡ true)
    × Goes IsKept clients moved 0 (v, (p, None)) (λ n. either (n == 0) 0 n) (Waits (step 0 0 0 a) (v, (p, None))) c log
    in
    subst P (sym kept.words) (
      omega arith,
      refl,
      waits_goes log v a p kept.turns kept.at (record {
        slot = kept.slot;
        given = kept.given;
        used = kept.used;
        made = kept.made;
        fits = kept.fits;
      }) (λ right. subst (λ (c : List Cell). (cell c p.key).1 ≡ false) kept.words (away right).1)
          (length kept.turns == 0) refl,
    )
