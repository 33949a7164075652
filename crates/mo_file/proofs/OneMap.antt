-- Bytes are an MO file of at most one map.
use Rattle.std.proofs.Common.{◌≡◌, ℕ, ◌<◌, List, map, refl, sym, ap, subst, ◌∙◌, arith}
use Rattle.std.specs.Prelude.{Result, Ok, Err, IfOk, IfErr}
use Rattle.catalogue.specs.Entry.{Entry, translation}
use Rattle.mo_file.specs.Tables.{strings}
use Rattle.mo_file.specs.MoReading.{Mo, Passes, Refused, rank, order, count, originals_start, translations_start}
use Rattle.mo_file.specs.MoReading.{file_of}
use Rattle.mo_file.specs.declared.fault.MoFault.{MoFault}
use Rattle.mo_file.specs.declared.fault.MoFault.TheVariants.{TooLarge, Short, Magic, Revision, Bounds, NoNul, BadText}
use Rattle.mo_file.specs.declared.fault.MoFault.TheVariants.{Forms, Order, Charset, Swollen, Memory}
use Rattle.catalogue.specs.Map.{IsLawful}
use Rattle.catalogue.specs.MoFile.{spelling}
use Rattle.mo_file.specs.Pairs.{paired_entries}
use Rattle.mo_file.proofs.ReadBack.{reads_back}
use Rattle.mo_file.proofs.Entries.{entries_again}

read_from : (bytes : List ℕ) (m : List Entry) → Mo bytes m
    → m ≡ paired_entries (strings (order bytes) bytes (originals_start (order bytes) bytes) (count (order bytes) bytes))
    (strings (order bytes) bytes (translations_start (order bytes) bytes) (count (order bytes) bytes))
read_from bytes m mo =
    sym (entries_again m mo.lawful.each)
    ∙ ap (λ (os : List (List ℕ)). paired_entries os (map translation m)) mo.originals
    ∙ ap (paired_entries (strings (order bytes) bytes (originals_start (order bytes) bytes)
    (count (order bytes) bytes)))
    mo.translations

pub unique_map : (bytes : List ℕ) (m n : List Entry) → Mo bytes m → Mo bytes n → m ≡ n
unique_map bytes m n p q = read_from bytes m p ∙ sym (read_from bytes n q)

pub refused_map : (bytes : List ℕ) (m : List Entry) (fault : MoFault) → rank fault < 12 → Refused bytes fault
    → Mo bytes m → ⊥
refused_map bytes m fault test refused mo = (refused test).0 (mo.passed fault test)

-- the file of a map passes each test; running out of memory isn't one
passes_each : (bytes : List ℕ) (m : List Entry) (fault : MoFault) → Mo bytes m → Passes (file_of bytes) fault
passes_each bytes m Memory mo = tt
passes_each bytes m TooLarge mo = mo.passed TooLarge (omega arith)
passes_each bytes m Short mo = mo.passed Short (omega arith)
passes_each bytes m Magic mo = mo.passed Magic (omega arith)
passes_each bytes m Revision mo = mo.passed Revision (omega arith)
passes_each bytes m Bounds mo = mo.passed Bounds (omega arith)
passes_each bytes m NoNul mo = mo.passed NoNul (omega arith)
passes_each bytes m BadText mo = mo.passed BadText (omega arith)
passes_each bytes m Forms mo = mo.passed Forms (omega arith)
passes_each bytes m Order mo = mo.passed Order (omega arith)
passes_each bytes m Charset mo = mo.passed Charset (omega arith)
passes_each bytes m Swollen mo = mo.passed Swollen (omega arith)

pub failing_map : (bytes : List ℕ) (m : List Entry) (fault : MoFault) → (Passes (file_of bytes) fault → ⊥)
    → Mo bytes m → ⊥
failing_map bytes m fault fails mo = fails (passes_each bytes m fault mo)

-- the file of a map is read back
pub reread_map : (m : List Entry) (bytes : List ℕ) (r : Result (List Entry) MoFault) → IsLawful m → bytes ≡ spelling m
    → IfOk r (λ c. Mo bytes c) → IfOk r (λ c. c ≡ m)
reread_map m bytes (Ok c) lawful is mo = unique_map bytes c m mo (subst (λ b. Mo b m) (sym is) (reads_back m lawful))
reread_map m bytes (Err f) lawful is mo = tt

only_memory : (m : List Entry) (bytes : List ℕ) (f : MoFault) → Mo bytes m → Refused bytes f → f ≡ Memory
only_memory m bytes TooLarge mo refused = absurd (refused_map bytes m TooLarge (omega arith) refused mo)
only_memory m bytes Short mo refused = absurd (refused_map bytes m Short (omega arith) refused mo)
only_memory m bytes Magic mo refused = absurd (refused_map bytes m Magic (omega arith) refused mo)
only_memory m bytes Revision mo refused = absurd (refused_map bytes m Revision (omega arith) refused mo)
only_memory m bytes Bounds mo refused = absurd (refused_map bytes m Bounds (omega arith) refused mo)
only_memory m bytes NoNul mo refused = absurd (refused_map bytes m NoNul (omega arith) refused mo)
only_memory m bytes BadText mo refused = absurd (refused_map bytes m BadText (omega arith) refused mo)
only_memory m bytes Forms mo refused = absurd (refused_map bytes m Forms (omega arith) refused mo)
only_memory m bytes Order mo refused = absurd (refused_map bytes m Order (omega arith) refused mo)
only_memory m bytes Charset mo refused = absurd (refused_map bytes m Charset (omega arith) refused mo)
only_memory m bytes Swollen mo refused = absurd (refused_map bytes m Swollen (omega arith) refused mo)
only_memory m bytes Memory mo refused = refl

pub reread_fault : (m : List Entry) (bytes : List ℕ) (r : Result (List Entry) MoFault) → IsLawful m → bytes ≡ spelling m
    → IfErr r (λ f. Refused bytes f) → IfErr r (λ f. f ≡ Memory)
reread_fault m bytes (Ok c) lawful is refused = tt
reread_fault m bytes (Err f) lawful is refused = only_memory m bytes f
    (subst (λ b. Mo b m) (sym is) (reads_back m lawful)) refused
