-- A PO text and an MO file each have at most one fault, and exactly one map if they have none.
use Rattle.std.proofs.Common.{◌≡◌, ◌≢◌, ℕ, ◌<◌, List, [], ◌∷◌, get_or, refl, sym, ap, ◌∙◌, arith, inl, inr}
use Rattle.std.proofs.lemmas.Bool.{cases_lt}
use Rattle.catalogue.specs.Entry.{Entry}
use Rattle.catalogue.specs.Meaning.{Means}
use Rattle.catalogue.specs.declared.Options.{Options}
use Rattle.catalogue.specs.declared.Compiled.{Compiled}
use Rattle.catalogue.specs.declared.LoadFault.{LoadFault}
use Rattle.catalogue.specs.declared.LoadKind.{LoadKind}
use Rattle.catalogue.proofs.OneMeaning.{refusal_one, means_or_refuses}
use Rattle.mo_file.specs.MoReading.{Mo, rank, Refused as IsRefusedFile}
use Rattle.mo_file.specs.declared.fault.MoFault.{MoFault}
use Rattle.mo_file.specs.declared.fault.MoFault.TheVariants as mo
use Rattle.mo_file.proofs.OneMap.{refused_map}
use Rattle.live_loads.specs.Store.{IsTextFault, IsFileFault}
use Rattle.live_loads.specs.declared.fault.StoreFault.{StoreFault}
use Rattle.live_loads.specs.declared.fault.StoreFault.TheVariants.{Refused, RefusedMo}

-- ---- PO texts

same_fault : (f g : LoadFault) → f.kind ≡ g.kind → f.line ≡ g.line → f ≡ g
same_fault f g kind line =
    let of : LoadKind → ℕ → LoadFault = λ k n. record { kind = k; line = n } in
    ap (λ (k : LoadKind). of k f.line) kind ∙ ap (of g.kind) line

pub text_fault_one : (text : List ℕ) (options : Options) (fault other : StoreFault) → IsTextFault text options fault
    → IsTextFault text options other → fault ≡ other
text_fault_one text options (Refused f) (Refused g) p q =
    let same = refusal_one text options f.kind g.kind f.line g.line p q in
    ap Refused (same_fault f g same.0 same.1)
text_fault_one text options (Refused f) other p q = absurd q
text_fault_one text options fault other p q = absurd p

pub no_text_fault : (text : List ℕ) (options : Options) (compiled : Compiled) → Means text options compiled
    → (fault : StoreFault) → IsTextFault text options fault → ⊥
no_text_fault text options compiled means (Refused f) is =
    means_or_refuses text options compiled f.kind f.line means is
no_text_fault text options compiled means fault is = absurd is

-- ---- MO files

abbrev in_order : List MoFault
in_order = mo.TooLarge ∷ mo.Short ∷ mo.Magic ∷ mo.Revision ∷ mo.Bounds ∷ mo.NoNul ∷ mo.BadText ∷ mo.Forms ∷ mo.Order
    ∷ mo.Charset ∷ mo.Swollen ∷ []

abbrev of_rank : ℕ → MoFault
of_rank n = get_or (mo.Memory ∷ in_order) n mo.Memory

rank_back : (fault : MoFault) → of_rank (rank fault) ≡ fault
rank_back mo.Memory = refl
rank_back fault = refl

rank_one : (f g : MoFault) → rank f ≡ rank g → f ≡ g
rank_one f g same = sym (rank_back f) ∙ (ap of_rank same ∙ rank_back g)

pub has_test : (fault : MoFault) → fault ≢ mo.Memory → rank fault < 12
has_test mo.Memory not = absurd (not refl)
has_test fault not = omega arith

refusal_first : (bytes : List ℕ) (f g : MoFault) → rank f < 12 → rank g < 12 → IsRefusedFile bytes f
    → IsRefusedFile bytes g → rank f < rank g → ⊥
refusal_first bytes f g low high p q less = (p low).0 ((q high).1 f less)

refused_file_one : (bytes : List ℕ) (f g : MoFault) → rank f < 12 → rank g < 12 → IsRefusedFile bytes f
    → IsRefusedFile bytes g → f ≡ g
refused_file_one bytes f g low high p q =
    elim (cases_lt (rank f) (rank g)) [
      | inl less ↦ absurd (refusal_first bytes f g low high p q less)
      | inr le ↦ elim (cases_lt (rank g) (rank f)) [
        | inl more ↦ absurd (refusal_first bytes g f high low q p more)
        | inr ge ↦ rank_one f g (omega (arith, le, ge))
      ]
    ]

pub file_fault_one : (bytes : List ℕ) (fault other : StoreFault) → IsFileFault bytes fault → IsFileFault bytes other
    → fault ≡ other
file_fault_one bytes (RefusedMo f) (RefusedMo g) p q =
    ap RefusedMo (refused_file_one bytes f g (has_test f p.0) (has_test g q.0) p.1 q.1)
file_fault_one bytes (RefusedMo f) other p q = absurd q
file_fault_one bytes fault other p q = absurd p

pub no_file_fault : (bytes : List ℕ) (map : List Entry) → Mo bytes map → (fault : StoreFault)
    → IsFileFault bytes fault → ⊥
no_file_fault bytes map is_file (RefusedMo f) is = refused_map bytes map f (has_test f is.0) is.1 is_file
no_file_fault bytes map is_file fault is = absurd is
