-- What the source of a load brings: one map, or one fault, and never none; and the entries of the map have forms.
use Rattle.catserve.proofs.Common.{◌≡◌, ◌∙◌, refl, sym, ap, subst, ℕ, zero, suc, ◌<◌, List, [], ◌∷◌, length, Option}
use Rattle.catserve.proofs.Common.{Some, None, arith, AllByRecursion, Entry, IsLawfulEntry, HasForms, SourceValue, Po}
use Rattle.catserve.proofs.Common.{Mo, Brings, IsSourceFault}
use Rattle.catalogue.specs.declared.Compiled.{Compiled}
use Rattle.catalogue.specs.declared.LoadFault.{LoadFault}
use Rattle.catalogue.proofs.OneMeaning.{meaning_one}
use Rattle.catalogue.proofs.SomeMeaning.{some_meaning, HasForm, IsFormed, means_formed}
use Rattle.mo_file.specs.MoReading.{rank}
use Rattle.mo_file.specs.declared.fault.MoFault.{MoFault}
use Rattle.mo_file.specs.declared.fault.MoFault.TheVariants.{Memory}
use Rattle.mo_file.proofs.OneMap.{unique_map}
use Rattle.mo_file.proofs.SomeMap.{some_map}
use Rattle.live_loads.specs.declared.fault.StoreFault.{StoreFault}
use Rattle.live_loads.specs.declared.fault.StoreFault.TheVariants as store_fault
use Rattle.live_loads.proofs.BytesFaults.{text_fault_one, no_text_fault, file_fault_one, no_file_fault}
use Rattle.desks.specs.declared.job.Accepted as job
use Rattle.desks.specs.declared.job.Accepted.TheVariants as accepted

-- ---- one map or one fault

pub brings_one : (s : SourceValue) (a b : job.Accepted) (m n : List Entry) → Brings s a m → Brings s b n
    → (a ≡ b) × (m ≡ n)
brings_one (Po text options) (accepted.Po stats) (accepted.Po other) m n (c, means, is, map_is)
    (d, also, is', map_is') =
    let same : c ≡ d = meaning_one text options c d means also in (
      ap accepted.Po (is ∙ ap (λ (k : Compiled). k.stats) same ∙ sym is'),
      map_is ∙ ap (λ (k : Compiled). k.catalogue) same ∙ sym map_is',
    )
brings_one (Mo bytes) (accepted.Mo entries) (accepted.Mo others) m n (mo, is) (also, is') =
    let same : m ≡ n = unique_map bytes m n mo also in (ap accepted.Mo (is ∙ ap length same ∙ sym is'), same)
brings_one _ _ _ m n h k = absurd (search)

pub fault_one : (s : SourceValue) (f g : StoreFault) → IsSourceFault s f → IsSourceFault s g → f ≡ g
fault_one (Po text options) = text_fault_one text options
fault_one (Mo bytes) = file_fault_one bytes

pub no_fault : (s : SourceValue) (a : job.Accepted) (m : List Entry) (f : StoreFault) → Brings s a m
    → IsSourceFault s f → ⊥
no_fault (Po text options) (accepted.Po stats) m f (c, means, is, map_is) k = no_text_fault text options c means f k
no_fault (Mo bytes) (accepted.Mo entries) m f h k = no_file_fault bytes m h.0 f k
no_fault _ _ m f h k = h

-- ---- a map or a fault

pub brings_some : (s : SourceValue) → ((a : job.Accepted) (m : List Entry) → Brings s a m → ⊥)
    → ((f : LoadFault) → IsSourceFault s (store_fault.Refused f) → ⊥)
    → ((f : MoFault) → IsSourceFault s (store_fault.RefusedMo f) → ⊥) → ⊥
brings_some (Po text options) none no_text_fault no_file_fault =
    some_meaning text options (λ c means. none (accepted.Po c.stats) c.catalogue (c, means, refl, refl))
    (λ (kind, line, refused). no_text_fault (record { kind = kind; line = line }) refused)
brings_some (Mo bytes) none no_text_fault no_file_fault =
    some_map bytes (λ m mo. none (accepted.Mo (length m)) m (mo, refl))
    (λ (fault, test, refused). no_file_fault fault (λ (is : fault ≡ Memory). omega (arith, test, ap rank is), refused))

-- ---- the entries of a map have forms

lawful_forms : (plural : Option (List ℕ)) (forms : List (List ℕ)) → HasForms plural forms → 0 < length forms
lawful_forms None forms one = omega arith
lawful_forms (Some plural) forms some = some

lawful_formed : (m : List Entry) → AllByRecursion IsLawfulEntry m → IsFormed m
lawful_formed [] all e has = absurd (omega (arith, has.1))
lawful_formed (x ∷ m) all e (zero, within, is) = subst HasForm is (lawful_forms x.plural x.forms all.0.counted)
lawful_formed (x ∷ m) all e (suc k, within, is) = lawful_formed m all.1 e (k, omega arith, is)

pub brings_formed : (s : SourceValue) (a : job.Accepted) (m : List Entry) → Brings s a m → IsFormed m
brings_formed (Po text options) (accepted.Po stats) m (c, means, is, map_is) =
    subst IsFormed (sym map_is) (means_formed text options c means)
brings_formed (Mo bytes) (accepted.Mo entries) m h = lawful_formed m h.0.lawful.each
brings_formed _ _ m h = absurd h
