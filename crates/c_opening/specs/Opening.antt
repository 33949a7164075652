-- What C holds after opening bytes: their catalogue, or the number of the fault and its line.
use Rattle.std.specs.Prelude.{◌≡◌, ◌⊎◌, ℕ, ◌+◌, ◌==◌, if◌then◌else◌, nat_lt, Bool, true, false, List, MatchOption}
use Rattle.std.specs.Prelude.{Option, None, Some, option_map}
use Rattle.std.specs.Arc.{arc_value}
use Rattle.mo_image.specs.Entry.{Entry}
use Rattle.mo_file.specs.MoReading.{Mo, Refused, rank as mo_number}
use Rattle.mo_file.specs.declared.fault.MoFault.TheVariants as mo
use Rattle.mo_segments.specs.declared.fault.DependentFault.{DependentFault}
use Rattle.mo_segments.specs.declared.fault.DependentFault.TheVariants as dependent
use Rattle.mo_revisions.specs.declared.fault.AnyMoFault.{AnyMoFault}
use Rattle.mo_revisions.specs.declared.fault.AnyMoFault.TheVariants.{Tables, Dependent, Mo as OfMo}
use Rattle.mo_charsets.specs.MoRecoding.{AnyCharsetMo}
use Rattle.mo_charsets.specs.MoFailing.{AnyCharsetRefused}
use Rattle.mo_charsets.specs.declared.fault.RecodedFault.{RecodedFault}
use Rattle.mo_charsets.specs.declared.fault.RecodedFault.TheVariants as recoded
use Rattle.catalogue.specs.Meaning.{Means, Refuses, rank}
use Rattle.catalogue.specs.declared.compiler.Compiled.{Compiled}
use Rattle.catalogue.specs.declared.Stats.{Stats}
use Rattle.any_charset.specs.Recoding.{IsForCharset, MeansAny, RefusesAny}
use Rattle.any_charset.specs.declared.fault.TextFault.{TextFault}
use Rattle.any_charset.specs.declared.fault.TextFault.TheVariants.{Load, NoCharacter}
use Rattle.po_checks.specs.Refusal.{out_of_memory}
use Rattle.po_checks.specs.declared.fault.LoadFault.{LoadFault}
use Rattle.po_checks.specs.declared.fault.LoadKind.{LoadKind}
use Rattle.po_checks.specs.declared.fault.LoadKind.TheVariants.{Memory, SystemDependent}
use Rattle.po_checks.specs.declared.options.Options.{Options}
use Rattle.c_answers.specs.declared.opened.Opened.{Opened}
use Rattle.c_answers.specs.Numbers.{no_fault, memory_fault, tables_fault, mo_no_character_fault, po_faults}
use Rattle.c_answers.specs.Numbers.{no_character_fault, not_read_back_fault, wanted_again_fault}
use Rattle.dependent_files.specs.DigitsFlag.{SomeHasFlag}
use Rattle.dependent_files.specs.TextFiles.{HasFileAny, HasNoFileAny}
use Rattle.dependent_files.specs.declared.compiler.DependentFile.{DependentFile}
use Rattle.dependent_files.specs.declared.fault.FileFault.{FileFault}
use Rattle.dependent_files.specs.declared.fault.FileFault.TheVariants.{Text, TooLarge, NotReadBack, Catalogue}

-- the number of a fault of a PO text; out of memory has one number in both formats
abbrev pub fault_number : LoadKind → ℕ
fault_number kind = if rank kind == rank Memory then memory_fault else po_faults + rank kind

-- the number of a fault of an MO file's system-dependent part: these follow that of the tables
abbrev pub dependent_number : DependentFault → ℕ
dependent_number dependent.Segment = tables_fault + 1
dependent_number dependent.Descriptor = tables_fault + 2
dependent_number dependent.SegmentNumber = tables_fault + 3
dependent_number dependent.Text = tables_fault + 4
dependent_number dependent.OpenText = tables_fault + 5
dependent_number dependent.Swollen = tables_fault + 6
dependent_number dependent.Memory = memory_fault

-- the number of a fault of an MO file of any revision
abbrev pub mo_fault_number : AnyMoFault → ℕ
mo_fault_number Tables = tables_fault
mo_fault_number (Dependent fault) = dependent_number fault
mo_fault_number (OfMo fault) = mo_number fault

-- the number of a fault of an MO file of any revision, in any charset
abbrev pub file_fault_number : RecodedFault → ℕ
file_fault_number (recoded.Any fault) = mo_fault_number fault
file_fault_number recoded.NoCharacter = mo_no_character_fault

-- the options given by two numbers: each is on if its number isn't 0
abbrev pub options_of : ℕ → ℕ → Options
options_of checked use_fuzzy = record { checked = nat_lt 0 checked; use_fuzzy = nat_lt 0 use_fuzzy }

-- the number and the line of a fault of a PO text in any charset
abbrev pub text_fault_number : TextFault → ℕ
text_fault_number (Load fault) = fault_number fault.kind
text_fault_number (NoCharacter line) = no_character_fault

abbrev pub line_of : TextFault → ℕ
line_of (Load fault) = fault.line
line_of (NoCharacter line) = line

-- the number and the line of why a PO text has no file
abbrev pub text_file_number : FileFault → ℕ
text_file_number (Text fault) = text_fault_number fault
text_file_number TooLarge = mo_number mo.TooLarge
text_file_number NotReadBack = not_read_back_fault
text_file_number (Catalogue fault) = mo_number fault

abbrev pub file_line : FileFault → ℕ
file_line (Text fault) = line_of fault
file_line _ = 0

-- the counts of what isn't a PO text
abbrev pub no_stats : Stats
no_stats = record { translated = 0; fuzzy = 0; untranslated = 0 }

-- no catalogue, for this reason
pub record IsRefused (c : Opened) (fault line : ℕ) : Type 0 where
  pub none : c.catalogue ≡ None
  pub no_file : c.file ≡ None
  pub fault_is : c.fault ≡ fault
  pub line_is : c.line ≡ line
  pub stats_are : c.stats ≡ no_stats

-- the file that isn't that of the map, if there is one
abbrev pub own_file : Opened → Option (List ℕ)
own_file c = option_map (λ file. file.items) c.file

-- a catalogue whose map and counts have this property together with its own file, and no fault
pub record IsOpenedAs (Is : List Entry → Stats → Option (List ℕ) → Type 0) (c : Opened) : Type 0 where
  pub map : MatchOption c.catalogue ⊥ (λ shared. Is (arc_value shared) c.stats (own_file c))
  pub fault_is : c.fault ≡ no_fault
  pub line_is : c.line ≡ 0

-- the catalogue of this map with these counts and this file, or out of memory
abbrev pub IsOpenedMap : List Entry → Stats → Option (List ℕ) → Opened → Type 0
IsOpenedMap m stats file c = IsOpenedAs (λ map counts own. (map ≡ m) × (counts ≡ stats) × (own ≡ file)) c
    ⊎ IsRefused c memory_fault 0

-- the bytes are an MO file of this map: if is_strict of revision 0.0 in UTF-8, and otherwise of any revision in any
-- charset
abbrev pub MeansMo : List ℕ → Bool → List Entry → Type 0
MeansMo bytes true m = Mo bytes m
MeansMo bytes false m = AnyCharsetMo bytes m

-- the bytes are refused by the reader of revision 0.0
abbrev pub RefusesStrictMo : List ℕ → RecodedFault → Type 0
RefusesStrictMo bytes (recoded.Any (OfMo fault)) = Refused bytes fault
RefusesStrictMo bytes _ = ⊥

-- the bytes are refused: if is_strict by the reader of revision 0.0, and otherwise by that of all revisions and
-- charsets
abbrev pub RefusesMo : List ℕ → Bool → RecodedFault → Type 0
RefusesMo bytes true fault = RefusesStrictMo bytes fault
RefusesMo bytes false fault = AnyCharsetRefused bytes fault

-- the map of an MO file, or its first fault, or out of memory
abbrev pub IsOpenedMo : List ℕ → Bool → Opened → Type 0
IsOpenedMo bytes is_strict c =
    IsOpenedAs (λ map counts own. MeansMo bytes is_strict map × (counts ≡ no_stats) × (own ≡ None)) c
    ⊎ (fault : RecodedFault) × RefusesMo bytes is_strict fault × IsRefused c (file_fault_number fault) 0

-- the text compiles to this: if is_strict as UTF-8, and otherwise in any charset
abbrev pub MeansText : List ℕ → Options → Bool → Compiled → Type 0
MeansText text options true compiled = Means text options compiled
MeansText text options false compiled = MeansAny text options compiled

-- the text is refused as UTF-8, or memory ran out
abbrev pub RefusesStrict : List ℕ → Options → TextFault → Type 0
RefusesStrict text options (Load fault) = (fault ≡ out_of_memory) ⊎ Refuses text options fault.kind fault.line
RefusesStrict text options (NoCharacter line) = ⊥

-- the text is refused: if is_strict as UTF-8, and otherwise in any charset
abbrev pub RefusesText : List ℕ → Options → Bool → TextFault → Type 0
RefusesText text options true fault = RefusesStrict text options fault
RefusesText text options false fault = RefusesAny text options fault

-- some translation of the map is a C format with the flag `I`; if is_strict, the flag is a byte like others
abbrev pub CountsFlag : Bool → List Entry → Type 0
CountsFlag true m = ⊥
CountsFlag false m = SomeHasFlag m

-- the text compiles to this map with these counts, no translation has a flag `I` that counts, and its file is that of
-- the map: one of revision 0.0
pub record MeansMap (text : List ℕ) (options : Options) (is_strict : Bool) (m : List Entry) (stats : Stats)
    (own : Option (List ℕ)) : Type 0 where
  pub compiled : Compiled
  pub means : MeansText text options is_strict compiled
  pub map_is : compiled.catalogue ≡ m
  pub stats_are : compiled.stats ≡ stats
  pub no_flag : ¬ CountsFlag is_strict m
  pub no_file : own ≡ None

-- ---- a text with system-dependent messages

abbrev pub IsSystemDependent : TextFault → Type 0
IsSystemDependent (Load fault) = fault.kind ≡ SystemDependent
IsSystemDependent (NoCharacter line) = ⊥

-- the text has this map, these counts and this file, where its formats may name macros
pub record MeansFile (text : List ℕ) (options : Options) (m : List Entry) (stats : Stats) (own : Option (List ℕ))
    : Type 0 where
  pub made : DependentFile
  pub has : HasFileAny text options made
  pub map_is : made.catalogue ≡ m
  pub stats_are : made.stats ≡ stats
  pub file_is : own ≡ Some made.file.items

-- the map, the counts and the file of a text whose formats may name macros, or why it has none, or out of memory
abbrev pub IsOpenedFile : List ℕ → Options → Opened → Type 0
IsOpenedFile text options c = IsOpenedAs (MeansFile text options) c
    ⊎ (fault : FileFault) × HasNoFileAny text options fault
    × IsRefused c (text_file_number fault) (file_line fault)

-- ---- a text

-- what becomes of a refusal: a text that is refused as system-dependent is opened with its macros, unless is_strict
abbrev pub IsTold : List ℕ → Options → Bool → TextFault → Opened → Type 0
IsTold text options true fault c = IsRefused c (text_fault_number fault) (line_of fault)
IsTold text options false fault c = (¬ IsSystemDependent fault × IsRefused c (text_fault_number fault) (line_of fault))
    ⊎ (IsSystemDependent fault × IsOpenedFile text options c)

-- the text compiles, and some translation of its map has a flag `I` that counts
pub record HasFlag (text : List ℕ) (options : Options) (is_strict : Bool) : Type 0 where
  pub compiled : Compiled
  pub means : MeansText text options is_strict compiled
  pub flag : CountsFlag is_strict compiled.catalogue

-- the map that a PO text compiles to; or, where a translation has the flag `I`, what the text is opened as with its
-- flags and macros; or what becomes of its first fault, or out of memory
abbrev pub IsOpenedPo : List ℕ → Options → Bool → Opened → Type 0
IsOpenedPo text options is_strict c = IsOpenedAs (MeansMap text options is_strict) c
    ⊎ (HasFlag text options is_strict × IsOpenedFile text options c)
    ⊎ (fault : TextFault) × RefusesText text options is_strict fault × IsTold text options is_strict fault c

-- ---- a text whose memory the library owns

-- a text that is refused for this as UTF-8 may be opened all the same: in another charset, or with macros
abbrev pub IsForMore : LoadKind → Type 0
IsForMore kind = IsForCharset kind ⊎ (kind ≡ SystemDependent)

-- as UTF-8 the text is refused, and may be opened all the same; or it compiles, and a translation has the flag `I`
abbrev pub MayBeMore : List ℕ → Options → Type 0
MayBeMore text options =
    ((fault : LoadFault) × Refuses text options fault.kind fault.line × IsForMore fault.kind)
    ⊎ (compiled : Compiled) × Means text options compiled × SomeHasFlag compiled.catalogue

-- what a text is opened as; or it is wanted again, since it may be opened as more than UTF-8
abbrev pub IsOpenedOwned : List ℕ → Options → Bool → Opened → Type 0
IsOpenedOwned text options is_strict c = IsOpenedPo text options is_strict c
    ⊎ (is_strict ≡ false) × MayBeMore text options × IsRefused c wanted_again_fault 0
