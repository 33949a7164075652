-- The law of what a load answers: in every store it has exactly one answer.
use Rattle.std.specs.Prelude.{◌≡◌, ◌≢◌, ℕ, List}
use Rattle.catalogue.specs.declared.Options.{Options}
use Rattle.live_loads.specs.Store.{StoreValue, IsWithin, Accepts, AcceptsMo, IsRefused, IsRefusedMo}
use Rattle.live_loads.specs.declared.fault.StoreFault.{StoreFault}
use Rattle.live_loads.specs.declared.fault.StoreFault.TheVariants.{Memory}

-- ---- one answer, given what holds of an accepted load and the store after it, and what holds of a refusal

-- the load is refused for this reason, other than running out of memory
abbrev pub HasReason : (StoreFault → Type 0) → StoreFault → Type 0
HasReason IsRefusal fault = (fault ≢ Memory) × IsRefusal fault

-- an accepted load has one outcome
abbrev pub HasOneOutcome : {A : Type 0} → (A → StoreValue → Type 0) → Type 0
HasOneOutcome {A} IsOutcome = (answer other : A) (after other_after : StoreValue) → IsOutcome answer after
    → IsOutcome other other_after → (answer ≡ other) × (after ≡ other_after)

-- a refused load has one reason
abbrev pub HasOneReason : (StoreFault → Type 0) → Type 0
HasOneReason IsRefusal = (fault other : StoreFault) → HasReason IsRefusal fault → HasReason IsRefusal other
    → fault ≡ other

-- no load is both accepted and refused
abbrev pub IsAcceptedOrRefused : {A : Type 0} → (A → StoreValue → Type 0) → (StoreFault → Type 0) → Type 0
IsAcceptedOrRefused {A} IsOutcome IsRefusal = (answer : A) (after : StoreValue) (fault : StoreFault)
    → IsOutcome answer after → ¬ HasReason IsRefusal fault

-- no load is neither accepted nor refused
abbrev pub HasSomeAnswer : {A : Type 0} → (A → StoreValue → Type 0) → (StoreFault → Type 0) → Type 0
HasSomeAnswer {A} IsOutcome IsRefusal = ((answer : A) (after : StoreValue) → ¬ IsOutcome answer after)
    → ¬ ¬ ((fault : StoreFault) × HasReason IsRefusal fault)

-- the load has exactly one answer in this store
pub record HasOneAnswer {A : Type 0} (s : StoreValue) (IsOutcome : A → StoreValue → Type 0)
    (IsRefusal : StoreFault → Type 0) : Type 0 where
  pub outcome : HasOneOutcome IsOutcome
  pub reason : HasOneReason IsRefusal
  pub apart : IsAcceptedOrRefused IsOutcome IsRefusal
  pub some : IsWithin s → HasSomeAnswer IsOutcome IsRefusal

-- ---- the two kinds of loads

-- each load of a PO text has one answer
abbrev pub TextsHaveOneAnswer : Type 0
TextsHaveOneAnswer = (s : StoreValue) (domain locale text : List ℕ) (options : Options)
    → HasOneAnswer s (Accepts s domain locale text options) (IsRefused s domain locale text options)

-- each load of an MO file has one answer
abbrev pub FilesHaveOneAnswer : Type 0
FilesHaveOneAnswer = (s : StoreValue) (domain locale bytes : List ℕ)
    → HasOneAnswer s (AcceptsMo s domain locale bytes) (IsRefusedMo s domain locale bytes)
