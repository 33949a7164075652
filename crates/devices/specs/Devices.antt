-- How devices count their reads and failures.
use Rattle.std.specs.Prelude.{◌≡◌, ◌⊎◌, ◌≤◌, ◌+◌, ℕ, List, Option, None, Result, IsErrOf, IfSome, take}
use Rattle.std.specs.Io.KnownBytes.{Appends}
use Rattle.devices.specs.declared.device.ReadFault.{ReadFault}
use Rattle.devices.specs.declared.device.ReadFault.TheVariants.{Failed}

-- the largest number of 64 bits, at which a count stops
abbrev pub most_counted : ℕ
most_counted = 18446744073709551615

-- how many reads of one input are tried, the constant MOST_READS
abbrev pub most_reads : ℕ
most_reads = 134217728

-- a count went up by n or more, or stopped
abbrev pub RisesBy : ℕ → ℕ → ℕ → Type 0
RisesBy n old new = (old + n ≤ new) ⊎ (most_counted ≤ new)

-- a read is counted, and `Failed` is answered only where the reader failed
pub record CountsRead {T : Type 0} (failures failures' reads reads' : ℕ) (result : Result T ReadFault) : Type 0 where
  pub later : failures ≤ failures'
  pub counted : RisesBy 1 reads reads'
  pub failed : IsErrOf result Failed → RisesBy 1 failures failures'

-- what is known of the reading side of a device: the bytes still to be read, where they are reported, and the counts
pub record InputSeen : Type 0 where
  pub left : Option (List ℕ)
  pub reads : ℕ
  pub failures : ℕ

-- what is known of the writing side: the bytes that were written, where they are reported, and the count of failures
pub record OutputSeen : Type 0 where
  pub bytes : Option (List ℕ)
  pub failures : ℕ

-- what is known of a reader, by the ghost functions of its type
abbrev pub input_seen : {R : Type 0} → (R → Option (List ℕ)) → (R → ℕ) → (R → ℕ) → R → InputSeen
input_seen remaining reads failures reader =
    record { left = remaining reader; reads = reads reader; failures = failures reader }

-- what is known of a writer, by the ghost functions of its type
abbrev pub output_seen : {W : Type 0} → (W → Option (List ℕ)) → (W → ℕ) → W → OutputSeen
output_seen contents failures writer = record { bytes = contents writer; failures = failures writer }

-- a device that isn't read
abbrev pub unread_input : InputSeen
unread_input = record { left = None; reads = 0; failures = 0 }

-- a device that isn't written
abbrev pub unwritten_output : OutputSeen
unwritten_output = record { bytes = None; failures = 0 }

-- all of the bytes, or the first `limit` if there are more, where they are reported
abbrev pub IsFront : ℕ → Option (List ℕ) → List ℕ → Type 0
IsFront limit known text = IfSome known (λ bytes. text ≡ take limit bytes)

-- a prefix of the bytes was written
abbrev pub AppendsFront : Option (List ℕ) → Option (List ℕ) → List ℕ → Type 0
AppendsFront old new bytes = (n : ℕ) × Appends old new (take n bytes)
