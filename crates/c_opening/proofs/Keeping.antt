-- What is kept of a catalogue that was opened.
use Rattle.std.proofs.Common.{◌≡◌, ℕ, ◌<◌, Bool, true, false, List, Option, Some, None, refl, subst, ◌∙◌}
use Rattle.std.proofs.Common.{arith, inl, inr}
use Rattle.std.specs.Prelude.{◌↔◌, ◌⊎◌, IfOk, IfErr, IsTrue, MatchOption, Result, Ok, Err}
use Rattle.std.specs.Arc.{arc_value}
use Rattle.mo_image.specs.Entry.{Entry}
use Rattle.mo_file.specs.MoReading.{rank}
use Rattle.mo_file.specs.Owned.{IsUnread}
use Rattle.mo_file.specs.declared.fault.MoFault.{MoFault}
use Rattle.mo_file.specs.declared.fault.MoFault.TheVariants as mo
use Rattle.mo_file.specs.declared.read.Unread.{Unread}
use Rattle.catalogue.specs.Meaning.{Means, Refuses}
use Rattle.catalogue.specs.declared.compiler.Compiled.{Compiled}
use Rattle.catalogue.specs.declared.Stats.{Stats}
use Rattle.mo_revisions.specs.declared.fault.AnyMoFault.TheVariants.{Mo as OfMo}
use Rattle.mo_charsets.specs.declared.fault.RecodedFault.TheVariants.{Any}
use Rattle.mo_charsets.specs.declared.fault.RecodedFault.{RecodedFault}
use Rattle.mo_charsets.specs.MoFailing.{AnyCharsetRefused}
use Rattle.mo_charsets.specs.MoRecoding.{AnyCharsetMo, IsForCharset}
use Rattle.any_charset.specs.declared.fault.TextFault.{TextFault}
use Rattle.any_charset.specs.declared.fault.TextFault.TheVariants.{Load}
use Rattle.po_checks.specs.Refusal.{out_of_memory}
use Rattle.po_checks.specs.declared.fault.LoadFault.{LoadFault}
use Rattle.po_checks.specs.declared.fault.LoadKind.TheVariants.{Memory}
use Rattle.po_checks.specs.declared.options.Options.{Options}
use Rattle.c_answers.specs.declared.opened.Opened.{Opened}
use Rattle.c_opening.specs.Opening.{IsOpenedAs, IsOpenedMap, IsOpenedMo, IsOpenedPo, MeansMap, MeansMo}
use Rattle.c_opening.specs.Opening.{MeansText, RefusesMo, RefusesText, no_stats, own_file}
use Rattle.c_opening.specs.Opening.{IsForMore, IsOpenedOwned, fault_number}
use Rattle.c_opening.specs.Opening.{CountsFlag, HasFlag, IsOpenedFile, IsRefused, IsTold, MeansFile}
use Rattle.c_answers.specs.Numbers.{memory_fault, wanted_again_fault}
use Rattle.dependent_files.specs.DigitsFlag.{SomeHasFlag}
use Rattle.dependent_files.specs.TextFiles.{HasFileAny}
use Rattle.dependent_files.specs.declared.compiler.DependentFile.{DependentFile}
use Rattle.dependent_files.specs.declared.fault.FileFault.TheVariants.{Text}

through : {A : Type 0} (value : A → List Entry) (P : List Entry → Stats → Option (List ℕ) → Type 0) (m : List Entry)
    (stats counts : Stats) (file own : Option (List ℕ)) (o : Option A) → P m stats file
    → MatchOption o ⊥ (λ s. (value s ≡ m) × (counts ≡ stats) × (own ≡ file))
    → MatchOption o ⊥ (λ s. P (value s) counts own)
through value P m stats counts file own None so h = h
through value P m stats counts file own (Some s) so h = rw (h.0, h.1, h.2) so

held : (P : List Entry → Stats → Option (List ℕ) → Type 0) (m : List Entry) (stats : Stats)
    (file : Option (List ℕ)) (c : Opened) → P m stats file
    → IsOpenedAs (λ map counts own. (map ≡ m) × (counts ≡ stats) × (own ≡ file)) c → IsOpenedAs P c
held P m stats file c so h = record {
  map = through (λ s. arc_value s) P m stats c.stats file (own_file c) c.catalogue so h.map;
  fault_is = h.fault_is;
  line_is = h.line_is;
}

no_charset : IsForCharset (OfMo mo.Memory) → ⊥
no_charset (inl e) = absurd (cc e)
no_charset (inr e) = absurd (cc e)

-- out of memory may stand for any refusal
no_memory : (bytes : List ℕ) (is_strict : Bool) → RefusesMo bytes is_strict (Any (OfMo mo.Memory))
no_memory bytes true = λ lt. absurd (omega (arith, lt))
no_memory bytes false = inl (no_charset, inl ((λ e. absurd (cc e)), (λ lt. absurd (omega (arith, lt)))))

pub kept_mo : (bytes : List ℕ) (is_strict : Bool) (m : List Entry) (c : Opened) → MeansMo bytes is_strict m
    → IsOpenedMap m no_stats None c → IsOpenedMo bytes is_strict c
kept_mo bytes is_strict m c so (inl h) =
    inl (held (λ map counts own. MeansMo bytes is_strict map × (counts ≡ no_stats) × (own ≡ None)) m no_stats None c
    (so, refl, refl) h)
kept_mo bytes is_strict m c so (inr refused) = inr (Any (OfMo mo.Memory), no_memory bytes is_strict, refused)

memory : (text : List ℕ) (options : Options) (is_strict : Bool)
    → RefusesText text options is_strict (Load out_of_memory)
memory text options true = inl refl
memory text options false = inl refl

-- out of memory may stand for any refusal
told : (text : List ℕ) (options : Options) (is_strict : Bool) (c : Opened) → IsRefused c memory_fault 0
    → IsTold text options is_strict (Load out_of_memory) c
told text options true c refused = refused
told text options false c refused = inl ((λ e. absurd (cc e)), refused)

pub out_of_memory_po : (text : List ℕ) (options : Options) (is_strict : Bool) (c : Opened)
    → IsRefused c memory_fault 0 → IsOpenedPo text options is_strict c
out_of_memory_po text options is_strict c refused =
    inr (inr (Load out_of_memory, memory text options is_strict, told text options is_strict c refused))

pub kept_po : (text : List ℕ) (options : Options) (is_strict : Bool) (compiled : Compiled) (c : Opened)
    → MeansText text options is_strict compiled → ¬ CountsFlag is_strict compiled.catalogue
    → IsOpenedMap compiled.catalogue compiled.stats None c → IsOpenedPo text options is_strict c
kept_po text options is_strict compiled c so none (inl h) =
    inl (held (MeansMap text options is_strict) compiled.catalogue compiled.stats None c (record {
      compiled = compiled;
      means = so;
      map_is = refl;
      stats_are = refl;
      no_flag = none;
      no_file = refl;
    }) h)
kept_po text options is_strict compiled c so none (inr refused) = out_of_memory_po text options is_strict c refused

pub flagged_po : (text : List ℕ) (options : Options) (is_strict : Bool) (compiled : Compiled) (c : Opened)
    → MeansText text options is_strict compiled → CountsFlag is_strict compiled.catalogue → IsOpenedFile text options c
    → IsOpenedPo text options is_strict c
flagged_po text options is_strict compiled c so flag opened =
    inr (inl (record { compiled = compiled; means = so; flag = flag }, opened))

pub refused_po : (text : List ℕ) (options : Options) (is_strict : Bool) (fault : TextFault) (c : Opened)
    → RefusesText text options is_strict fault → IsTold text options is_strict fault c
    → IsOpenedPo text options is_strict c
refused_po text options is_strict fault c refuses told = inr (inr (fault, refuses, told))

pub kept_file : (text : List ℕ) (options : Options) (made : DependentFile) (c : Opened) → HasFileAny text options made
    → IsOpenedMap made.catalogue made.stats (Some made.file.items) c → IsOpenedFile text options c
kept_file text options made c so (inl h) =
    inl (held (MeansFile text options) made.catalogue made.stats (Some made.file.items) c
    (record { made = made; has = so; map_is = refl; stats_are = refl; file_is = refl }) h)
kept_file text options made c so (inr refused) = inr (Text (Load out_of_memory), inl refl, refused)

pub counted : {E : Type 0} (is_strict : Bool) (m : List Entry) (result : Result Bool E) → is_strict ≡ false
    → IfOk result (λ counts. IsTrue counts ↔ SomeHasFlag m)
    → IfOk result (λ counts. IsTrue counts ↔ CountsFlag is_strict m)
counted true m result is has = absurd (cc is)
counted false m result is has = has

pub none_counts : {P : Type 0} (counts : Bool) → counts ≡ false → (IsTrue counts ↔ P) → ¬ P
none_counts true is both = absurd (cc is)
none_counts false is both = λ flag. absurd (cc (both.1 flag))

-- ---- what the library owns

-- a fault other than that of memory
below : (fault : MoFault) → ¬ (fault ≡ mo.Memory) → rank fault < 12
below mo.TooLarge ne = omega arith
below mo.Short ne = omega arith
below mo.Magic ne = omega arith
below mo.Revision ne = omega arith
below mo.Bounds ne = omega arith
below mo.NoNul ne = omega arith
below mo.BadText ne = omega arith
below mo.Forms ne = omega arith
below mo.Order ne = omega arith
below mo.Charset ne = omega arith
below mo.Swollen ne = omega arith
below mo.Memory ne = absurd (ne refl)

abbrev pub MeansUnread : Unread → Bool → List Entry → Type 0
MeansUnread unread is_strict m = (bytes : List ℕ) → IsUnread bytes unread → MeansMo bytes is_strict m

abbrev pub RefusesUnread : Unread → Bool → RecodedFault → Type 0
RefusesUnread unread is_strict fault = (bytes : List ℕ) → IsUnread bytes unread → RefusesMo bytes is_strict fault

pub given_back_strict : (unread : Unread) (is_strict : Bool) → is_strict ≡ true
    → RefusesUnread unread is_strict (Any (OfMo unread.fault))
given_back_strict unread true is bytes h = h.refused
given_back_strict unread false is bytes h = absurd (cc is)

pub given_back_memory : (unread : Unread) (is_strict : Bool)
    → RefusesUnread unread is_strict (Any (OfMo mo.Memory))
given_back_memory unread is_strict bytes h = no_memory bytes is_strict

pub given_back_read : (unread : Unread) (is_strict : Bool) (given : List ℕ) (r : Result (List Entry) RecodedFault)
    → is_strict ≡ false → ¬ (unread.fault ≡ mo.Memory) → given ≡ unread.bytes.items → IfOk r (AnyCharsetMo given)
    → IfOk r (MeansUnread unread is_strict)
given_back_read unread true given r is ne lent so = absurd (cc is)
given_back_read unread false given (Ok m) is ne lent so = λ bytes h.
    subst (λ (b : List ℕ). AnyCharsetMo b m) (lent ∙ h.kept (below unread.fault ne)) so
given_back_read unread false given (Err fault) is ne lent so = tt

pub given_back_refused : (unread : Unread) (is_strict : Bool) (given : List ℕ) (r : Result (List Entry) RecodedFault)
    → is_strict ≡ false → ¬ (unread.fault ≡ mo.Memory) → given ≡ unread.bytes.items
    → IfErr r (AnyCharsetRefused given) → IfErr r (RefusesUnread unread is_strict)
given_back_refused unread true given r is ne lent so = absurd (cc is)
given_back_refused unread false given (Ok m) is ne lent so = tt
given_back_refused unread false given (Err fault) is ne lent so = λ bytes h.
    subst (λ (b : List ℕ). AnyCharsetRefused b fault) (lent ∙ h.kept (below unread.fault ne)) so

pub from_given_back : (unread : Unread) (bytes : List ℕ) (is_strict : Bool) (r : Result (List Entry) RecodedFault)
    → IsUnread bytes unread → IfOk r (MeansUnread unread is_strict) → IfOk r (MeansMo bytes is_strict)
from_given_back unread bytes is_strict (Ok m) h so = so bytes h
from_given_back unread bytes is_strict (Err fault) h so = tt

pub refused_given_back : (unread : Unread) (bytes : List ℕ) (is_strict : Bool) (r : Result (List Entry) RecodedFault)
    → IsUnread bytes unread → IfErr r (RefusesUnread unread is_strict) → IfErr r (RefusesMo bytes is_strict)
refused_given_back unread bytes is_strict (Ok m) h so = tt
refused_given_back unread bytes is_strict (Err fault) h so = so bytes h

not_for_more : IsForMore Memory → ⊥
not_for_more (inl (inl e)) = absurd (cc e)
not_for_more (inl (inr e)) = absurd (cc e)
not_for_more (inr e) = absurd (cc e)

pub wanted_for_more : (text : List ℕ) (options : Options) (is_strict : Bool) (fault : LoadFault) (c : Opened)
    → (is_strict ≡ false) × IsForMore fault.kind → IsRefused c wanted_again_fault 0
    → (fault ≡ out_of_memory) ⊎ Refuses text options fault.kind fault.line → IsOpenedOwned text options is_strict c
wanted_for_more text options is_strict fault c more refused (inl memory) =
    absurd (not_for_more (subst (λ (f : LoadFault). IsForMore f.kind) memory more.1))
wanted_for_more text options is_strict fault c more refused (inr refuses) =
    inr (more.0, inl (fault, refuses, more.1), refused)

told_owned : (text : List ℕ) (options : Options) (is_strict : Bool) (fault : LoadFault) (c : Opened)
    → ¬ ((is_strict ≡ false) × IsForMore fault.kind) → IsRefused c (fault_number fault.kind) fault.line
    → (fault ≡ out_of_memory) ⊎ Refuses text options fault.kind fault.line → IsOpenedOwned text options is_strict c
told_owned text options true fault c none refused why =
    inl (refused_po text options true (Load fault) c why refused)
told_owned text options false fault c none refused (inl memory) =
    inl (refused_po text options false (Load fault) c (inl memory) (inl ((λ e. none (refl, inr e)), refused)))
told_owned text options false fault c none refused (inr refuses) =
    inl (refused_po text options false (Load fault) c
    (inr (inl (record { refuses = refuses; no_other = λ of. absurd (none (refl, inl of)) })))
    (inl ((λ e. none (refl, inr e)), refused)))

pub refused_owned_po : (text : List ℕ) (options : Options) (is_strict : Bool) (fault : LoadFault) (number : ℕ)
    (c : Opened) → ¬ ((is_strict ≡ false) × IsForMore fault.kind) → number ≡ fault_number fault.kind
    → IsRefused c number fault.line → (fault ≡ out_of_memory) ⊎ Refuses text options fault.kind fault.line
    → IsOpenedOwned text options is_strict c
refused_owned_po text options is_strict fault number c none is refused why =
    told_owned text options is_strict fault c none (subst (λ (n : ℕ). IsRefused c n fault.line) is refused) why

means_text : (text : List ℕ) (options : Options) (is_strict : Bool) (compiled : Compiled)
    → Means text options compiled → MeansText text options is_strict compiled
means_text text options true compiled means = means
means_text text options false compiled means = inl means

pub kept_owned : (text : List ℕ) (options : Options) (is_strict : Bool) (compiled : Compiled) (c : Opened)
    → ¬ CountsFlag is_strict compiled.catalogue → IsOpenedMap compiled.catalogue compiled.stats None c
    → Means text options compiled → IsOpenedOwned text options is_strict c
kept_owned text options is_strict compiled c none map means =
    inl (kept_po text options is_strict compiled c (means_text text options is_strict compiled means) none map)

pub wanted_for_flag : (text : List ℕ) (options : Options) (is_strict : Bool) (compiled : Compiled) (c : Opened)
    → CountsFlag is_strict compiled.catalogue → IsRefused c wanted_again_fault 0 → Means text options compiled
    → IsOpenedOwned text options is_strict c
wanted_for_flag text options true compiled c flag refused means = absurd flag
wanted_for_flag text options false compiled c flag refused means = inr (refl, inr (compiled, means, flag), refused)

pub memory_owned : (text : List ℕ) (options : Options) (is_strict : Bool) (c : Opened) → IsRefused c memory_fault 0
    → IsOpenedOwned text options is_strict c
memory_owned text options is_strict c refused = inl (out_of_memory_po text options is_strict c refused)

pub some_counts : {P : Type 0} (counts : Bool) → counts ≡ true → (IsTrue counts ↔ P) → P
some_counts true is both = both.0 refl
some_counts false is both = absurd (cc is)
