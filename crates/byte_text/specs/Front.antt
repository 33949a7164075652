-- The front of a text, a number that tells most texts apart.
use Rattle.std.specs.Prelude.{◌≡◌, ℕ, ◌<◌, List, slice_index}
use Rattle.byteorder.specs.Endian.{big_number}

-- the first eight bytes as a number, the first byte highest; missing bytes count as 0
unfoldable pub leading : List ℕ → ℕ
leading text = big_number 8 text

-- n is the front of the text, which consists of bytes
pub record IsFrontOf (text : List ℕ) (n : ℕ) : Type 0 where
  pub number : n ≡ leading text
  pub bytes : (k : ℕ) → slice_index text k < 256

-- the texts consist of bytes and have equal fronts
pub record HaveOneFront (text other : List ℕ) : Type 0 where
  pub number : leading text ≡ leading other
  pub bytes : (k : ℕ) → slice_index text k < 256
  pub other_bytes : (k : ℕ) → slice_index other k < 256
