-- Answers that are written into a `String` of the caller's.
use Rattle.std.specs.Prelude.{ℕ, ◌<◌, List, length}
use Rattle.live_set.specs.Loads.{LoadValue}
use Rattle.live_set.specs.Asks.{QueryValue, IsAnswer}

-- the query has an answer that is longer than a string of this capacity can hold
pub record IsLonger (loads : List LoadValue) (query : QueryValue) (room : ℕ) : Type 0 where
  pub text : List ℕ
  pub answer : IsAnswer loads query text
  pub longer : room < length text
