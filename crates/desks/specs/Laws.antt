-- The law that jobs come to one end.
use Rattle.std.specs.Prelude.{◌≡◌, List}
use Rattle.live_versions.specs.Store.{StoreValue}
use Rattle.desks.specs.Jobs.{JobValue, Outcome, HasDone}

-- equal jobs in equal stores have equal outcomes, and leave equal stores
abbrev pub HasOneEnd : Type 0
HasOneEnd = (s after other : StoreValue) (jobs : List JobValue) (outcomes others : List Outcome)
    → HasDone s jobs outcomes after → HasDone s jobs others other → (outcomes ≡ others) × (after ≡ other)
