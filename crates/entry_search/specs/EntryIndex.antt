-- Private: the index of the entry with a key.
use Rattle.std.specs.Prelude.{◌≡◌, ℕ, ◌<◌, List, Option, Some, None, length, slice_get}
use Rattle.mo_image.specs.Entry.{Entry}
use Rattle.mo_image.specs.Map.{entry_at}

-- the entry with this key has this index; without an index, no entry has the key
abbrev pub IsEntryIndexOf : List Entry → List ℕ → Option ℕ → Type 0
IsEntryIndexOf m k None = entry_at m k ≡ None
IsEntryIndexOf m k (Some i) = (i < length m) × (entry_at m k ≡ slice_get m i)
