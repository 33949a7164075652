-- Private: how the end of a line is looked for.
use Rattle.std.specs.Prelude.{◌≡◌, ◌+◌, ◌<◌, ◌≤◌, ℕ, true, false, List, ◌++◌, length}
use Rattle.std.specs.Prelude.{slice_index, Option, Result, Ok, Err}
use Rattle.std.specs.Io.KnownBytes.{Consumes, IsAtEnd}
use Rattle.devices.specs.Lines.{is_line_end}
use Rattle.devices.specs.Incoming.{Incoming, LacksEnd, EndsLine}
use Rattle.devices.specs.declared.incoming.LineInputFault.{LineInputFault}

-- bytes went from a reader to the end of a buffer
pub record AddsBytes (before after : Option (List ℕ)) (old new : List ℕ) : Type 0 where
  pub more : List ℕ
  pub behind : new ≡ old ++ more
  pub consumed : Consumes before after more

-- bytes of a reader were lost
pub record LosesBytes (before after : Option (List ℕ)) (old new : List ℕ) : Type 0 where
  pub lost : List ℕ
  pub same : new ≡ old
  pub consumed : Consumes before after lost

-- one read of an input that goes on
abbrev pub Reads : Option (List ℕ) → Option (List ℕ) → Incoming → Incoming → Result (Unit {0}) LineInputFault → Type 0
Reads before after old new (Ok _) = AddsBytes before after old.left new.left
    × (new.ended ≡ true → IsAtEnd after)
Reads before after old new (Err _) = LosesBytes before after old.left new.left × (new.ended ≡ old.ended)

-- no end of the line has come, and the input goes on
pub record HasNoEnd (input : Incoming) (from : ℕ) : Type 0 where
  pub going : input.ended ≡ false
  pub lacks : LacksEnd input.left from (length input.left)

-- the line that begins at `from` ends at `end`, or none begins there
pub record IsKnownEnd (input : Incoming) (from end : ℕ) : Type 0 where
  pub line : from < end → EndsLine input from end
  pub none : end ≡ from → (input.ended ≡ true) × (length input.left ≡ from)
  pub low : from ≤ end
  pub high : end ≤ length input.left
  pub lacks : (k : ℕ) → from ≤ k → k + 1 < end → is_line_end (slice_index input.left k) ≡ false
