-- Each refusal has a rank of its own. So what passes all tests below a refusal, and that refusal's, passes all tests
-- below the next rank.
use Rattle.std.proofs.Common.{◌≡◌, ℕ, ◌+◌, List, [], ◌∷◌, get_or, refl, sym, ap, subst, ◌∙◌, arith, inl, inr}
use Rattle.std.proofs.lemmas.Bool.{cases_lt}
use Rattle.mo_file.specs.MoReading.{File, Passes, rank, PassesBelow}
use Rattle.mo_file.specs.declared.fault.MoFault.{MoFault}
use Rattle.mo_file.specs.declared.fault.MoFault.TheVariants.{TooLarge, Short, Magic, Revision, Bounds, NoNul, BadText}
use Rattle.mo_file.specs.declared.fault.MoFault.TheVariants.{Forms, Order, Charset, Swollen, Memory}

abbrev in_order : List MoFault
in_order = TooLarge ∷ Short ∷ Magic ∷ Revision ∷ Bounds ∷ NoNul ∷ BadText ∷ Forms ∷ Order ∷ Charset ∷ Swollen ∷ Memory
    ∷ []

abbrev fault_at : ℕ → MoFault
fault_at k = get_or in_order k Memory

pub record HasIndex (fault : MoFault) : Type 0 where
  pub index : ℕ
  pub rank_is : rank fault ≡ index + 1
  pub fault_is : fault_at index ≡ fault

pub has_index : (fault : MoFault) → HasIndex fault
has_index TooLarge = record { index = 0; rank_is = refl; fault_is = refl }
has_index Short = record { index = 1; rank_is = refl; fault_is = refl }
has_index Magic = record { index = 2; rank_is = refl; fault_is = refl }
has_index Revision = record { index = 3; rank_is = refl; fault_is = refl }
has_index Bounds = record { index = 4; rank_is = refl; fault_is = refl }
has_index NoNul = record { index = 5; rank_is = refl; fault_is = refl }
has_index BadText = record { index = 6; rank_is = refl; fault_is = refl }
has_index Forms = record { index = 7; rank_is = refl; fault_is = refl }
has_index Order = record { index = 8; rank_is = refl; fault_is = refl }
has_index Charset = record { index = 9; rank_is = refl; fault_is = refl }
has_index Swollen = record { index = 10; rank_is = refl; fault_is = refl }
has_index Memory = record { index = 11; rank_is = refl; fault_is = refl }

pub rank_one : (f g : MoFault) → rank f ≡ rank g → f ≡ g
rank_one f g e =
    let p = has_index f in
    let q = has_index g in
    let same : p.index ≡ q.index = omega (arith, p.rank_is, q.rank_is, e) in
    sym p.fault_is ∙ ap fault_at same ∙ q.fault_is

pub passes_next : (file : File) (fault : MoFault) → PassesBelow file (rank fault) → Passes file fault
    → PassesBelow file (rank fault + 1)
passes_next file fault below own other less = elim (cases_lt (rank other) (rank fault)) [
  | inl lower ↦ below other lower
  | inr more ↦ subst (λ (f : MoFault). Passes file f) (rank_one fault other (omega (arith, less, more))) own
]

-- ---- the tests that come after the magic number

pub past_revision : (file : File) → PassesBelow file 4 → Passes file Revision → PassesBelow file 5
past_revision file below revision = passes_next file Revision below revision

pub past_bounds : (file : File) → PassesBelow file 4 → Passes file Revision → Passes file Bounds → PassesBelow file 6
past_bounds file below revision bounds = passes_next file Bounds (past_revision file below revision) bounds

-- what has passed the bounds passes the tests up to the size if the strings pass theirs
pub past_closing : (file : File) → PassesBelow file 6 → Passes file NoNul → PassesBelow file 7
past_closing file below with_nul = passes_next file NoNul below with_nul

pub past_texts : (file : File) → PassesBelow file 6 → Passes file NoNul → Passes file BadText → PassesBelow file 8
past_texts file below with_nul texts = passes_next file BadText (past_closing file below with_nul) texts

pub past_forms : (file : File) → PassesBelow file 6 → Passes file NoNul → Passes file BadText → Passes file Forms
    → PassesBelow file 9
past_forms file below with_nul texts forms = passes_next file Forms (past_texts file below with_nul texts) forms

pub past_order : (file : File) → PassesBelow file 6 → Passes file NoNul → Passes file BadText → Passes file Forms
    → Passes file Order → PassesBelow file 10
past_order file below with_nul texts forms rise =
    passes_next file Order (past_forms file below with_nul texts forms) rise

pub past_charset : (file : File) → PassesBelow file 6 → Passes file NoNul → Passes file BadText → Passes file Forms
    → Passes file Order → Passes file Charset → PassesBelow file 11
past_charset file below with_nul texts forms rise headers =
    passes_next file Charset (past_order file below with_nul texts forms rise) headers

pub past_size : (file : File) → PassesBelow file 6 → Passes file NoNul → Passes file BadText → Passes file Forms
    → Passes file Order → Passes file Charset → Passes file Swollen → PassesBelow file 12
past_size file below with_nul texts forms rise headers size =
    passes_next file Swollen (past_charset file below with_nul texts forms rise headers) size
