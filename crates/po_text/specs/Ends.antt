-- Private: the rest of a text.
use Rattle.std.specs.Prelude.{◌≡◌, ℕ, ◌+◌, ◌<◌, true, List, drop, get_or, length}
use Rattle.std.specs.Str.{is_utf8}

-- after each ASCII byte the text is UTF-8
pub record EndsText (rest : List ℕ) : Type 0 where
  pub utf8 : (i : ℕ) → i < length rest → get_or rest i 0 < 128 → is_utf8 (drop (i + 1) rest) ≡ true
