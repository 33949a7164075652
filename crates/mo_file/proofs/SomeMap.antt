-- Bytes are an MO file of a map, or are refused: assuming neither leads to ⊥.
use Rattle.std.proofs.Common.{◌≡◌, ℕ, zero, suc, ◌+◌, ◌<◌, List, sym, subst, ◌∙◌, arith, inl, inr}
use Rattle.std.proofs.lemmas.Bool.{cases_lt}
use Rattle.catalogue.specs.Entry.{Entry}
use Rattle.mo_file.specs.MoReading.{order, file_of, Passes, rank, PassesBelow, Refused, Mo, IsMoFile}
use Rattle.mo_file.specs.declared.fault.MoFault.{MoFault}
use Rattle.mo_file.specs.Pairs.{named_in}
use Rattle.mo_file.proofs.Named.{is_mo}
use Rattle.mo_file.proofs.Ranking.{has_index, rank_one}

-- ---- a file that no refusal applies to passes all tests

passed_below : (bytes : List ℕ) (n : ℕ) → n < 12 → ((fault : MoFault) → rank fault < 12 → Refused bytes fault → ⊥)
    → (PassesBelow (file_of bytes) (n + 1) → ⊥) → ⊥
passed_below bytes zero lt no_refusal none = none (λ fault less. let p = has_index fault in absurd
    (omega (arith, p.rank_is, less)))
passed_below bytes (suc n) lt no_refusal none = passed_below bytes n (omega (arith, lt)) no_refusal
    (λ below. next below)
  where
    Here : Type 0
    Here = (fault : MoFault) × (rank fault ≡ n + 1)

    -- below the next rank, or of it
    with_next : PassesBelow (file_of bytes) (n + 1) → ((fault : MoFault) → rank fault ≡ n + 1
        → Passes (file_of bytes) fault) → PassesBelow (file_of bytes) (suc n + 1)
    with_next below here fault less = elim (cases_lt (rank fault) (n + 1)) [
      | inl lower ↦ below fault lower
      | inr more ↦ here fault (omega (arith, less, more))
    ]

    next : PassesBelow (file_of bytes) (n + 1) → ⊥
    next below =
        let nobody : ((fault : MoFault) → rank fault ≡ n + 1 → ⊥)
        → ⊥ = λ nobody. none (with_next below (λ fault is. absurd (nobody fault is))) in
        nobody (λ f is.
        no_refusal f (omega (arith, is, lt))
        (λ test. (
          λ passes. none (with_next below (λ fault also. subst (λ (g : MoFault). Passes (file_of bytes) g)
              (rank_one f fault (is ∙ sym also)) passes)),
          λ fault less. below fault (omega (arith, less, is)),
        )))

pub some_map : (bytes : List ℕ) → ((m : List Entry) → Mo bytes m → ⊥)
    → ((fault : MoFault) × (rank fault < 12) × Refused bytes fault → ⊥) → ⊥
some_map bytes no_map no_refusal =
    passed_below bytes 11 (omega arith) (λ fault test refused. no_refusal (fault, test, refused))
    (λ passed. no_map (named_in (order bytes) bytes) (is_mo bytes passed))

pub passing_map : (bytes : List ℕ) → ((fault : MoFault) → Passes (file_of bytes) fault) → IsMoFile bytes
passing_map bytes passed = (named_in (order bytes) bytes, is_mo bytes (λ fault test. passed fault))
