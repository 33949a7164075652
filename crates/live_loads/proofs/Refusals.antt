-- The order in which loads are refused, whatever the bytes are refused for.
use Rattle.std.proofs.Common.{◌≡◌, ℕ, List, [], ◌∷◌, ◌++◌, refl, sym, ap, ◌∙◌, arith, inl, inr}
use Rattle.std.proofs.lemmas.Bool.{cases_lt}
use Rattle.catalogue.specs.Entry.{Entry}
use Rattle.live_loads.specs.Store.{StoreValue, accepted_count, IsWithin, AreNames, HasRoom, AddsLoad, IsRefusedFor}
use Rattle.live_loads.specs.LoadAnswers.{HasReason, HasOneReason}
use Rattle.live_loads.specs.declared.fault.StoreFault.{StoreFault}
use Rattle.live_loads.specs.declared.fault.StoreFault.TheVariants.{BadName, VersionsSpent, Refused, RefusedMo, Memory}

-- the store with a load of this map appended to its pending loads
abbrev pub with_load : StoreValue → List ℕ → List ℕ → List Entry → StoreValue
with_load s domain locale map = record s {
  pending = s.pending ++ record { domain = domain; locale = locale; map = map } ∷ [];
}

-- a load of this map is added
pub adds_load : (s : StoreValue) (domain locale : List ℕ) (map : List Entry) → AreNames domain locale → HasRoom s
    → AddsLoad s domain locale map (with_load s domain locale map)
adds_load s domain locale map names room = record { names = names; room = room; after_is = refl }

-- one map is added in one way
pub adds_one : (s t u : StoreValue) (domain locale : List ℕ) (map other : List Entry) → map ≡ other
    → AddsLoad s domain locale map t → AddsLoad s domain locale other u → t ≡ u
adds_one s t u domain locale map other same p q =
    p.after_is ∙ (ap (with_load s domain locale) same ∙ sym q.after_is)

-- ---- the laws of the order

-- a load is refused for one reason
pub reason_one : (P : StoreFault → Type 0) → ((fault other : StoreFault) → P fault → P other → fault ≡ other)
    → (s : StoreValue) (domain locale : List ℕ) → HasOneReason (IsRefusedFor P s domain locale)
reason_one P one s domain locale BadName BadName p q = refl
reason_one P one s domain locale BadName VersionsSpent p q = absurd (p.1 q.1.0)
reason_one P one s domain locale BadName (Refused g) p q = absurd (p.1 q.1.0)
reason_one P one s domain locale BadName (RefusedMo g) p q = absurd (p.1 q.1.0)
reason_one P one s domain locale VersionsSpent BadName p q = absurd (q.1 p.1.0)
reason_one P one s domain locale VersionsSpent VersionsSpent p q = refl
reason_one P one s domain locale VersionsSpent (Refused g) p q = absurd (omega (arith, p.1.1, q.1.1))
reason_one P one s domain locale VersionsSpent (RefusedMo g) p q = absurd (omega (arith, p.1.1, q.1.1))
reason_one P one s domain locale (Refused f) BadName p q = absurd (q.1 p.1.0)
reason_one P one s domain locale (Refused f) VersionsSpent p q = absurd (omega (arith, q.1.1, p.1.1))
reason_one P one s domain locale (Refused f) (Refused g) p q = one (Refused f) (Refused g) p.1.2 q.1.2
reason_one P one s domain locale (Refused f) (RefusedMo g) p q = one (Refused f) (RefusedMo g) p.1.2 q.1.2
reason_one P one s domain locale (RefusedMo f) BadName p q = absurd (q.1 p.1.0)
reason_one P one s domain locale (RefusedMo f) VersionsSpent p q = absurd (omega (arith, q.1.1, p.1.1))
reason_one P one s domain locale (RefusedMo f) (Refused g) p q = one (RefusedMo f) (Refused g) p.1.2 q.1.2
reason_one P one s domain locale (RefusedMo f) (RefusedMo g) p q = one (RefusedMo f) (RefusedMo g) p.1.2 q.1.2
reason_one P one s domain locale Memory other p q = absurd (p.0 refl)
reason_one P one s domain locale fault Memory p q = absurd (q.0 refl)

-- if the bytes have no fault and their load is added, there is no reason
pub added_or_refused : (P : StoreFault → Type 0) → ((fault : StoreFault) → P fault → ⊥) → (s after : StoreValue)
    (domain locale : List ℕ) (map : List Entry) (fault : StoreFault) → AddsLoad s domain locale map after
    → HasReason (IsRefusedFor P s domain locale) fault → ⊥
added_or_refused P none s after domain locale map BadName adds why = why.1 adds.names
added_or_refused P none s after domain locale map VersionsSpent adds why = omega (arith, adds.room, why.1.1)
added_or_refused P none s after domain locale map (Refused f) adds why = none (Refused f) why.1.2
added_or_refused P none s after domain locale map (RefusedMo f) adds why = none (RefusedMo f) why.1.2
added_or_refused P none s after domain locale map Memory adds why = why.0 refl

-- if there is no reason before the bytes, the bytes are read
pub is_read : (P : StoreFault → Type 0) (s : StoreValue) (domain locale : List ℕ) → IsWithin s
    → ((fault : StoreFault) × HasReason (IsRefusedFor P s domain locale) fault → ⊥)
    → (AreNames domain locale → HasRoom s → ⊥) → ⊥
is_read P s domain locale within no_reason unread =
    no_reason (
      BadName,
      (
        (λ is. absurd (cc is)),
        λ (names : AreNames domain locale).
            elim (cases_lt (accepted_count s) s.most) [
              | inl room ↦ unread names room
              | inr full ↦ no_reason (VersionsSpent, ((λ is. absurd (cc is)), (names, omega (arith, within, full))))
            ],
      ),
    )
