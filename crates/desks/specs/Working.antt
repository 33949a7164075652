-- What one job leaves, and what learning, working and settling do to a desk.
use Rattle.std.specs.Prelude.{◌≡◌, ◌⊎◌, ⊤, IfSome, None}
use Rattle.live_versions.specs.Seen.{SeenValue}
use Rattle.live_versions.specs.Store.{StoreValue}
use Rattle.live_versions.specs.Batches.{version_of, StartsWith}
use Rattle.desks.specs.declared.desk.Desk.{Desk}
use Rattle.desks.specs.declared.desk.ServeFault.{ServeFault}
use Rattle.desks.specs.declared.desk.ServeFault.TheVariants.{Ahead, Join}
use Rattle.desks.specs.declared.job.Accepted.{Accepted}
use Rattle.desks.specs.Jobs.{JobValue, IsAccepted}
use Rattle.desks.specs.Answers.{Answered}
use Rattle.desks.specs.Desks.{KeepsDesk}

-- the faults that may stop the work: out of memory, or the store is closed
abbrev pub OfWork : ServeFault → Type 0
OfWork Ahead = ⊥
OfWork Join = ⊥
OfWork _ = ⊤

-- a fault leaves the job's load pending, or changes nothing
abbrev pub LeavesOne : StoreValue → JobValue → StoreValue → Type 0
LeavesOne s job after = (after ≡ s) ⊎ ((counts : Accepted) × IsAccepted s job counts after)

-- the reader has learnt what was published, and nothing else changed
pub record HasLearnt (start : SeenValue) (desk after : Desk) : Type 0 where
  pub book : after.reader.book ≡ desk.reader.book
  pub seen : StartsWith after.reader.batches desk.reader.batches
  pub told : StartsWith after.reader.batches start.batches
  pub queries : after.queries ≡ desk.queries

-- the desk was worked: without a fault, each query has its answer in what the reader has now seen
pub record Worked (desk after : Desk) : Type 0 where
  pub kept : KeepsDesk desk after
  pub of_work : IfSome after.fault OfWork
  pub answered : after.fault ≡ None
      → Answered after.reader.batches (version_of desk.reader.batches) desk.queries.items after.answers.items

-- the reader has learnt what is published, and nothing else changed
pub record Settled (end : SeenValue) (desk after : Desk) : Type 0 where
  pub reader : after.reader ≡ end
  pub later : StartsWith end.batches desk.reader.batches
  pub queries : after.queries ≡ desk.queries
  pub answers : after.answers ≡ desk.answers
  pub fault : after.fault ≡ desk.fault
