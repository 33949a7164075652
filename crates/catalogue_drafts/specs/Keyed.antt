-- A text that begins with a key, and the two fronts of that key.
use Rattle.std.specs.Prelude.{ℕ, List, take, drop}
use Rattle.std.specs.Str.{IsCharBoundary}
use Rattle.byte_text.specs.Front.{IsFrontOf}

-- the first n bytes of a text are a key, with the front of the key and that of what follows its first eight bytes
pub record IsKeyed (text : List ℕ) (n front next : ℕ) : Type 0 where
  pub ends : IsCharBoundary text n
  pub front_is : IsFrontOf (take n text) front
  pub next_is : IsFrontOf (drop 8 (take n text)) next
