-- Bytes that are read as an MO file, or given back (GNU gettext manual, "MO Files").
use Rattle.std.specs.Prelude.{◌≡◌, ℕ, ◌<◌, List}
use Rattle.mo_file.specs.MoReading.{rank, Refused}
use Rattle.mo_file.specs.declared.read.Unread.{Unread}

-- the bytes are refused for the fault, and are here as they were unless memory ran out
pub record IsUnread (bytes : List ℕ) (unread : Unread) : Type 0 where
  pub refused : Refused bytes unread.fault
  pub kept : rank unread.fault < 12 → unread.bytes.items ≡ bytes
