-- Private: what the book of a store keeps: the batches that were made, which version was shown last, and whose turn it
-- is to show the next one.
use Rattle.std.specs.Prelude.{◌≡◌, ◌≢◌, ℕ, zero, suc, ◌+◌, ◌*◌, ◌/◌, ◌^◌, ◌<◌, ◌≤◌, List, [], ◌∷◌, ◌++◌}
use Rattle.std.specs.Prelude.{◌⊎◌, true, length, max}
use Rattle.logbook.specs.Pages.{Cell, cell, Book, Named, Nib, nib, may_write, may_make, Step, View}
use Rattle.live_set.specs.Loads.{LoadValue}

-- an entry of a book: a batch was made (0), or the version of the first n batches was shown (n)
abbrev pub Event : Type 0
Event = ℕ × List LoadValue

abbrev pub batches_in : ℕ → List LoadValue → List (List LoadValue) → List (List LoadValue)
batches_in zero batch batches = batch ∷ batches
batches_in (suc n) batch batches = batches

-- the batches that were made
abbrev pub batches_of : List Event → List (List LoadValue)
batches_of [] = []
batches_of (e ∷ es) = batches_in e.0 e.1 (batches_of es)

-- the most batches that were shown
abbrev pub shown_of : List Event → ℕ
shown_of [] = 0
shown_of (e ∷ es) = max e.0 (shown_of es)

-- A turn is the right to show one more version, which only its holder has. One is given when a book is opened, and one
-- with each batch.
abbrev pub AreGiven : List Cell → List Event → Type 0
AreGiven turns log = (length turns ≡ length (batches_of log) + 1)
    ⊎ ((length turns ≡ 0) × (length (batches_of log) ≡ 0))

-- which book a turn is of, and how many batches are shown until it is used
pub record TurnValue : Type 0 where
  pub book : Book
  pub shown : ℕ

-- A book has two words: how many turns were given, and how many batches are shown, with the slot of their version. It
-- has a cell for each turn, which is at home once that turn was used.
pub record IsKept (cells : List Cell) (log : List Event) : Type 0 where
  pub at : ℕ
  pub turns : List Cell
  pub words : cells ≡ (length turns, true) ∷ (shown_of log * 64 + at, true) ∷ turns
  pub slot : at < 64
  pub given : AreGiven turns log
  pub used : (n : ℕ) → n < shown_of log → (cell turns n).1 ≡ true
  pub made : shown_of log ≤ length (batches_of log)
  pub fits : length (batches_of log) < 2 ^ 58

-- the word by which batches are made
abbrev pub head_of : Book → Named
head_of b = record { tracked = true; key = 0; book = b }

-- the word of what is shown
abbrev pub shown_word : Book → Named
shown_word b = record { tracked = true; key = 1; book = b }

-- the turn that was given as this one, counted from 0
abbrev pub new_turn : ℕ → Nib
new_turn n = nib may_make (suc (suc n)) 0

-- the first turn is given, unless one was
abbrev pub Begins : Step Event → View Event ℕ → ℕ → View Event ℕ → Type 0
Begins s v found w = found ≡ s.old → w.1.0 ≡ new_turn s.old

-- the batch is added to all that was seen, and the next turn is given, unless the book has moved on
abbrev pub Adds : List LoadValue → Step Event → View Event ℕ → ℕ → View Event ℕ → Type 0
Adds batch s v found w = found ≡ s.old
    → (batches_of w.0 ≡ batches_of v.0 ++ batch ∷ []) × (w.1.0 ≡ new_turn s.old)

-- the version is shown, and the turn used, unless another one is shown
abbrev pub Shows : ℕ → Step Event → View Event ℕ → ℕ → View Event ℕ → Type 0
Shows n s v found w = (found ≡ s.old → n ≤ shown_of w.0) × (found ≢ s.old → w.1.0 ≡ v.1.0)

-- what is shown was found
abbrev pub Looks : Step Event → View Event ℕ → ℕ → View Event ℕ → Type 0
Looks s v found w = found / 64 ≡ shown_of w.0

-- the turn isn't used, and no more batches are shown than it says
abbrev pub Waits : Step Event → View Event ℕ → ℕ → View Event ℕ → Type 0
Waits s v found w = (w.1.0 ≡ v.1.0) × (v.1.0.right ≡ may_write → shown_of w.0 + 2 ≤ v.1.0.key)
