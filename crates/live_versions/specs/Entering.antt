-- What a visit of a reader shows, and which reader it borrows.
use Rattle.std.specs.Prelude.{ℕ}
use Rattle.live_versions.specs.declared.pinned.Pinned.{Pinned}

-- the batches that were published when the reader entered
abbrev pub visit_of : {G : Type 0} → Pinned G → G
visit_of pinned = pinned.visit

-- the name of the borrow of its reader
abbrev pub home_name : {G : Type 0} → Pinned G → ℕ
home_name pinned = pinned.home.ghost_name
