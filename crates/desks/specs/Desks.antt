-- What a service does to its desks.
use Rattle.std.specs.Prelude.{◌≡◌, ◌⊎◌, ◌<◌, ⊤, max, List, [], ◌∷◌, Some, None}
use Rattle.live_versions.specs.Seen.{SeenValue}
use Rattle.live_versions.specs.Batches.{version_of, StartsWith}
use Rattle.desks.specs.declared.desk.Desk.{Desk}
use Rattle.desks.specs.declared.desk.ServeFault.{ServeFault}
use Rattle.desks.specs.declared.desk.ServeFault.TheVariants.{Ahead, Closed, Join, Memory}
use Rattle.desks.specs.Answers.{Answered}

-- it holds of at least one desk (for two lists of desks, member by member, see the library's `AllZip`)
abbrev pub AtSome : (Desk → Type 0) → List Desk → Type 0
AtSome P [] = ⊥
AtSome P (desk ∷ desks) = P desk ⊎ AtSome P desks

-- the queries stay, and the reader stays in its store and has still seen all that it had seen
pub record KeepsDesk (desk after : Desk) : Type 0 where
  pub queries : after.queries ≡ desk.queries
  pub book : after.reader.book ≡ desk.reader.book
  pub seen : StartsWith after.reader.batches desk.reader.batches

-- The desk is served: its reader has seen what is published at the end, and each query has its answer. No version is
-- below what the reader had seen, nor below what was published at the start.
pub record IsServed (start end : SeenValue) (desk after : Desk) : Type 0 where
  pub reader : after.reader ≡ end
  pub later : StartsWith end.batches desk.reader.batches
  pub queries : after.queries ≡ desk.queries
  pub fault : after.fault ≡ None
  pub answered : Answered end.batches (max (version_of desk.reader.batches) (version_of start.batches))
      desk.queries.items after.answers.items

-- why a service ends early: a reader has seen more than is published at the end, a desk has the fault that its reader
-- found the store closed, or memory ran out; no thread is ever missing
abbrev pub EndsAhead : SeenValue → List Desk → ServeFault → Type 0
EndsAhead end desks Ahead = AtSome (λ desk. version_of end.batches < version_of desk.reader.batches) desks
EndsAhead end desks Closed = AtSome (λ desk. desk.fault ≡ Some Closed) desks
EndsAhead end desks Join = ⊥
EndsAhead end desks Memory = ⊤
