-- Why bytes are refused as an MO file of any revision.
use Rattle.std.specs.Prelude.{◌≡◌, ◌≢◌, ◌⊎◌, ℕ, ◌<◌, ◌≤◌, ⊤, List, length}
use Rattle.mo_image.specs.MoFile.{most_file}
use Rattle.mo_file.specs.MoReading.{File, file_of, Refused, Passes}
use Rattle.mo_file.specs.declared.fault.MoFault.{MoFault}
use Rattle.mo_file.specs.declared.fault.MoFault.TheVariants.{Revision, Bounds, Swollen, NoNul, Order, Memory}
use Rattle.mo_segments.specs.Descriptors.{segment_values}
use Rattle.mo_segments.specs.Expanding.{LacksSomeSegment}
use Rattle.mo_segments.specs.MessageStrings.{Strings}
use Rattle.mo_segments.specs.Dependents.{IsFaultIn}
use Rattle.mo_segments.specs.Flat.{AreKept, flat_file}
use Rattle.mo_segments.specs.declared.fault.DependentFault.{DependentFault}
use Rattle.mo_revisions.specs.Revisions.{minor, statics, segment_count, segments_start, IsKnownRevision, IsStaticSound}
use Rattle.mo_revisions.specs.Revisions.{IsDependentThere, HasSegments, HasMessages}
use Rattle.mo_revisions.specs.declared.fault.AnyMoFault.{AnyMoFault}
use Rattle.mo_revisions.specs.declared.fault.AnyMoFault.TheVariants.{Tables, Dependent, Mo as OfMo}

-- ---- the messages

-- why the static part can't be read: the first of these tests that fails, or out of memory
abbrev pub IsStaticFault : File → MoFault → Type 0
IsStaticFault file Revision = ¬ IsKnownRevision file
IsStaticFault file Bounds = IsKnownRevision file × ¬ Passes file Bounds
IsStaticFault file Swollen = IsKnownRevision file × Passes file Bounds × ¬ Passes file Swollen
IsStaticFault file NoNul = IsKnownRevision file × Passes file Bounds × Passes file Swollen × ¬ Passes file NoNul
IsStaticFault file Order = IsKnownRevision file × Passes file Bounds × Passes file Swollen × Passes file NoNul
    × ¬ Passes file Order
IsStaticFault file Memory = ⊤
IsStaticFault file _ = ⊥

-- why the system-dependent part can't be read, once its tables are there: the segments come before the messages
pub record IsDependentFault (file : File) (fault : DependentFault) : Type 0 where
  pub there : IsDependentThere file
  pub fails : LacksSomeSegment file.number file.bytes (segments_start file) (segment_count file) fault
      ⊎ HasSegments file × IsFaultIn file.number file.bytes
      (segment_values file.number file.bytes (segments_start file) (segment_count file)) (statics file) fault

-- why the system-dependent part can't be read
abbrev pub IsPartFault : File → AnyMoFault → Type 0
IsPartFault file Tables = ¬ IsDependentThere file
IsPartFault file (Dependent fault) = IsDependentFault file fault
IsPartFault file (OfMo fault) = ⊥

-- why the messages of a file can't be read
abbrev pub IsMessagesFault : File → AnyMoFault → Type 0
IsMessagesFault file (OfMo fault) = IsStaticFault file fault
IsMessagesFault file Tables = IsStaticSound file × (minor file ≢ 0) × ¬ IsDependentThere file
IsMessagesFault file (Dependent fault) = IsStaticSound file × (minor file ≢ 0) × IsDependentFault file fault

-- ---- the catalogue

-- why the file of revision 0.0 has no catalogue: it would be too large, or is refused
pub record IsFlatFault (messages : List Strings) (fault : MoFault) : Type 0 where
  pub kept : List Strings
  pub are_kept : AreKept messages kept
  pub fails : (most_file < length (flat_file kept)) × (fault ≡ Swollen)
      ⊎ (length (flat_file kept) ≤ most_file) × Refused (flat_file kept) fault

-- why messages have no catalogue, or out of memory
abbrev pub HasNoCatalogue : List Strings → MoFault → Type 0
HasNoCatalogue messages fault = (fault ≡ Memory) ⊎ IsFlatFault messages fault

-- the file has messages, which have no catalogue
pub record LacksCatalogue (file : File) (fault : AnyMoFault) : Type 0 where
  pub messages : List Strings
  pub has : HasMessages file messages
  pub reason : MoFault
  pub is : fault ≡ OfMo reason
  pub no_catalogue : HasNoCatalogue messages reason

-- ---- all refusals

-- a fault of the messages, or of their catalogue, in a file that strict reading refuses for its revision
pub record IsFaultBeyond (bytes : List ℕ) (fault : AnyMoFault) : Type 0 where
  pub refused : Refused bytes Revision
  pub fails : IsMessagesFault (file_of bytes) fault ⊎ LacksCatalogue (file_of bytes) fault

-- a fault of strict reading, other than the revision
abbrev pub IsStrictFault : List ℕ → AnyMoFault → Type 0
IsStrictFault bytes (OfMo fault) = (fault ≢ Revision) × Refused bytes fault
IsStrictFault bytes _ = ⊥

-- the bytes are refused for this
abbrev pub AnyRefused : List ℕ → AnyMoFault → Type 0
AnyRefused bytes fault = IsStrictFault bytes fault ⊎ IsFaultBeyond bytes fault
