-- The hash table of a file (GNU gettext manual, "MO Files").
use Rattle.std.specs.Prelude.{◌≡◌, ◌≢◌, ℕ, zero, suc, ◌+◌, ◌-◌, ◌*◌, ◌/◌, ◌%◌, ◌<◌, ◌≤◌, nat_lt, if◌then◌else◌, bit_xor}
use Rattle.std.specs.Prelude.{List, [], ◌∷◌, length, replicate, slice_index, slice_get, set, IfSome}
use Rattle.std.specs.List.{sum_by}

-- the hash function of P. J. Weinberger, of 32 bits: each byte shifts the value by 4 bits, and the 4 bits at the top go
-- into the 4 bits above the lowest
abbrev pub hash_step : ℕ → ℕ → ℕ
hash_step h byte =
    let full = (h * 16 + byte) % 4294967296 in
    bit_xor (full % 268435456) (full / 268435456 * 16)

abbrev pub hash_from : ℕ → List ℕ → ℕ
hash_from h [] = h
hash_from h (byte ∷ bytes) = hash_from (hash_step h byte) bytes

abbrev pub hash : List ℕ → ℕ
hash key = hash_from 0 key

-- the slot that a string with this hash value tries after k others: double hashing
abbrev pub probe : ℕ → ℕ → ℕ → ℕ
probe size h k = (h + k * (1 + h % (size - 2))) % size

-- the slot is free, and those that the string tries before it aren't
pub record IsFirstFree (slots : List ℕ) (h slot : ℕ) : Type 0 where
  pub tries : ℕ
  pub within : tries < length slots
  pub is : slot ≡ probe (length slots) h tries
  pub free : slice_index slots slot ≡ 0
  pub taken : (k : ℕ) → k < tries → slice_index slots (probe (length slots) h k) ≢ 0

-- the slots after the first n keys: each puts its number, counted from 1, into its first free slot
abbrev pub IsFilledTo : ℕ → List (List ℕ) → ℕ → List ℕ → Type 0
IsFilledTo size keys zero slots = slots ≡ replicate size 0
IsFilledTo size keys (suc n) slots = (before : List ℕ) × IsFilledTo size keys n before
    × ((slot : ℕ) × IfSome (slice_get keys n) (λ key. IsFirstFree before (hash key) slot)
    × (slots ≡ set before slot (suc n)))

abbrev pub IsHashTable : ℕ → List (List ℕ) → List ℕ → Type 0
IsHashTable size keys slots = IsFilledTo size keys (length keys) slots

-- the number of slots that aren't free
abbrev pub one_if_taken : ℕ → ℕ
one_if_taken zero = 0
one_if_taken (suc n) = 1

abbrev pub taken_count : List ℕ → ℕ
taken_count slots = sum_by one_if_taken slots

pub record IsPrime (n : ℕ) : Type 0 where
  pub some : 1 < n
  pub undivided : (d : ℕ) → 1 < d → d < n → n % d ≢ 0

-- the least number of slots: 4/3 of the messages; 3 for one message, and 5 for two or three
abbrev pub least_size : ℕ → ℕ
least_size messages =
    if nat_lt messages 2 then 3 else
    if nat_lt messages 4 then 5 else messages * 4 / 3

-- the number of slots: the first prime that is large enough
pub record IsHashSize (messages size : ℕ) : Type 0 where
  pub enough : least_size messages ≤ size
  pub prime : IsPrime size
  pub first : (n : ℕ) → least_size messages ≤ n → n < size → ¬ IsPrime n
