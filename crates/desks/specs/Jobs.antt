-- Jobs, each a load that is published by itself, and their outcomes.
use Rattle.std.specs.Prelude.{◌≡◌, ◌⊎◌, ℕ, List, [], ◌∷◌, ◌++◌, length, Result, Ok, Err}
use Rattle.catalogue.specs.Entry.{Entry}
use Rattle.catalogue.specs.Meaning.{Means}
use Rattle.catalogue.specs.declared.Options.{Options}
use Rattle.catalogue.specs.declared.Compiled.{Compiled}
use Rattle.mo_file.specs.MoReading.{Mo as IsFileOf}
use Rattle.live_loads.specs.declared.fault.StoreFault.{StoreFault}
use Rattle.live_loads.specs.declared.fault.StoreFault.TheVariants.{Memory}
use Rattle.live_versions.specs.Batches.{after_publish}
use Rattle.live_versions.specs.Store.{StoreValue, AddsLoad, IsTextFault, IsFileFault, IsRefusedFor}
use Rattle.desks.specs.declared.job.Source.{Source}
use Rattle.desks.specs.declared.job.Source.TheVariants as source
use Rattle.desks.specs.declared.job.Accepted.{Accepted}
use Rattle.desks.specs.declared.job.Accepted.TheVariants as accepted

-- what a job loads: a PO text with its options, or an MO file
pub data SourceValue : Type 0 where
  Po : (text : List ℕ) (options : Options) → SourceValue
  Mo : (bytes : List ℕ) → SourceValue

-- what contracts see of a source
abbrev pub source_value : Source → SourceValue
source_value (source.Po bytes options) = Po bytes.items options
source_value (source.Mo bytes) = Mo bytes.items

-- a source for a domain and a locale
pub record JobValue : Type 0 where
  pub domain : List ℕ
  pub locale : List ℕ
  pub source : SourceValue

-- the outcome of a job: what its accepted load returns, or why it is refused
abbrev pub Outcome : Type 0
Outcome = Result Accepted StoreFault

-- the pending loads, if any, are published as one batch
abbrev pub store_after_publish : StoreValue → StoreValue
store_after_publish s = record s {
  seen = record s.seen { batches = after_publish s.seen.batches s.pending };
  pending
      = [];
}

-- the source gives this map, and its load returns this: the counts of a PO text, or the number of entries of an MO file
abbrev pub Brings : SourceValue → Accepted → List Entry → Type 0
Brings (Po text options) (accepted.Po stats) map = (compiled : Compiled) × Means text options compiled
    × (stats ≡ compiled.stats) × (map ≡ compiled.catalogue)
Brings (Mo bytes) (accepted.Mo entries) map = IsFileOf bytes map × (entries ≡ length map)
Brings _ _ map = ⊥

-- the source has this fault
abbrev pub IsSourceFault : SourceValue → StoreFault → Type 0
IsSourceFault (Po text options) = IsTextFault text options
IsSourceFault (Mo bytes) = IsFileFault bytes

-- the job's load is accepted and returns this: the map of its source is added
abbrev pub IsAccepted : StoreValue → JobValue → Accepted → StoreValue → Type 0
IsAccepted s job counts after = (map : List Entry) × Brings job.source counts map
    × AddsLoad s job.domain job.locale map after

-- the job's load is refused for this reason
abbrev pub IsRefused : StoreValue → JobValue → StoreFault → Type 0
IsRefused s job fault = IsRefusedFor (IsSourceFault job.source) s job.domain job.locale fault

-- A job is done: its load is accepted and published as one batch, or it is refused and nothing changes. Running out of
-- memory isn't an outcome.
abbrev pub Does : StoreValue → JobValue → Outcome → StoreValue → Type 0
Does s job (Ok counts) after = (loaded : StoreValue) × IsAccepted s job counts loaded
    × (after ≡ store_after_publish loaded)
Does s job (Err Memory) after = ⊥
Does s job (Err fault) after = IsRefused s job fault × (after ≡ s)

-- jobs are done one after another, each with its outcome
abbrev pub DoesAll : StoreValue → List JobValue → List Outcome → StoreValue → Type 0
DoesAll s [] [] after = after ≡ s
DoesAll s (job ∷ jobs) (outcome ∷ outcomes) after = (between : StoreValue) × Does s job outcome between
    × DoesAll between jobs outcomes after
DoesAll s _ _ after = ⊥

-- what was pending is published, and then every job is done
abbrev pub HasDone : StoreValue → List JobValue → List Outcome → StoreValue → Type 0
HasDone s jobs outcomes after = DoesAll (store_after_publish s) jobs outcomes after

-- what was pending is published, a prefix of the jobs is done, and at most the load of the next one is pending
pub record StopsWithin (s : StoreValue) (jobs : List JobValue) (after : StoreValue) : Type 0 where
  pub first : List JobValue
  pub rest : List JobValue
  pub split : jobs ≡ first ++ rest
  pub outcomes : List Outcome
  pub reached : StoreValue
  pub done : HasDone s first outcomes reached
  pub left : (after ≡ reached)
      ⊎ ((job : JobValue) × (others : List JobValue) × (counts : Accepted) × (rest ≡ job ∷ others)
      × IsAccepted reached job counts after)

-- what the jobs leave when a fault stops them: no load is lost, and none is made up
abbrev pub Stops : StoreValue → List JobValue → StoreValue → Type 0
Stops s jobs after = (after ≡ s) ⊎ StopsWithin s jobs after
