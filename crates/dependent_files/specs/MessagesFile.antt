-- The MO file of static and system-dependent messages, and their catalogue (GNU gettext manual, "MO Files").
use Rattle.std.specs.Prelude.{◌≡◌, ◌≢◌, ◌⊎◌, ℕ, List, [], ◌∷◌}
pub use Rattle.po_checks.specs.Refusal.{out_of_memory}
pub use Rattle.any_charset.specs.declared.fault.TextFault.TheVariants.{Load}
pub use Rattle.mo_image.specs.Entry.{Entry}
use Rattle.mo_image.specs.MoFile.{spelling}
use Rattle.mo_file.specs.MoReading.{file_of}
use Rattle.mo_file.specs.declared.fault.MoFault.{MoFault}
use Rattle.mo_file.specs.declared.fault.MoFault.TheVariants as mo
use Rattle.mo_segments.specs.declared.fault.DependentFault.TheVariants as part
pub use Rattle.mo_dependent.specs.Layout.{IsDependentFile, IsWriteFault}
use Rattle.mo_dependent.specs.declared.fault.WriteFault.TheVariants as write
use Rattle.mo_revisions.specs.Revisions.{HasMessages}
pub use Rattle.mo_revisions.specs.AnyReading.{IsCatalogueOf}
use Rattle.mo_revisions.specs.Refusing.{HasNoCatalogue, IsMessagesFault}
use Rattle.mo_revisions.specs.declared.fault.AnyMoFault.{AnyMoFault}
use Rattle.mo_revisions.specs.declared.fault.AnyMoFault.TheVariants.{Dependent as OfPart, Mo as OfMo}
pub use Rattle.dependent_files.specs.MessagesHere.{messages_here, Strings, Dependent}
pub use Rattle.dependent_files.specs.declared.fault.FileFault.{FileFault}
pub use Rattle.dependent_files.specs.declared.fault.FileFault.TheVariants.{Text, TooLarge, NotReadBack, Catalogue}

-- ---- the file

-- without system-dependent messages the file has revision 0.0, and otherwise 0.1 or 1.1
abbrev pub IsFile : List Entry → List Dependent → List ℕ → Type 0
IsFile m [] bytes = bytes ≡ spelling m
IsFile m (d ∷ ds) bytes = IsDependentFile m (d ∷ ds) bytes

-- the file of the messages, whose static ones have a catalogue of their own
pub record IsWritten (statics : List Strings) (dependents : List Dependent) (bytes : List ℕ) : Type 0 where
  pub map : List Entry
  pub is_map : IsCatalogueOf statics map
  pub file_is : IsFile map dependents bytes

-- the messages have this file, which reads back as the messages that this machine has, and these have this catalogue
pub record HasFile (statics : List Strings) (dependents : List Dependent) (bytes : List ℕ) (m : List Entry)
    : Type 0 where
  pub written : IsWritten statics dependents bytes
  pub reads_back : HasMessages (file_of bytes) (messages_here statics dependents)
  pub catalogue_is : IsCatalogueOf (messages_here statics dependents) m

-- ---- why there is none

abbrev pub IsOutOfMemory : AnyMoFault → Type 0
IsOutOfMemory fault = (fault ≡ OfMo mo.Memory) ⊎ (fault ≡ OfPart part.Memory)

-- the file isn't read, since its system-dependent strings take more than a reader has room for
abbrev pub SwellsInReading : List ℕ → Type 0
SwellsInReading bytes = IsMessagesFault (file_of bytes) (OfPart part.Swollen)

-- the file can't be read for another reason, or reads as other messages
abbrev pub ReadsOtherwise : List ℕ → List Strings → Type 0
ReadsOtherwise bytes messages = ((fault : AnyMoFault) × ¬ IsOutOfMemory fault × (fault ≢ OfPart part.Swollen)
    × IsMessagesFault (file_of bytes) fault)
    ⊎ ((others : List Strings) × (others ≢ messages) × HasMessages (file_of bytes) others)

-- the messages have no catalogue, and that isn't for want of memory
abbrev pub LacksCatalogue : List Strings → MoFault → Type 0
LacksCatalogue messages fault = (fault ≢ mo.Memory) × HasNoCatalogue messages fault

-- the static messages have a catalogue, and with it the file would be too large
pub record IsTooLargeToWrite (statics : List Strings) (dependents : List Dependent) : Type 0 where
  pub map : List Entry
  pub is_map : IsCatalogueOf statics map
  pub too_large : IsWriteFault map dependents write.TooLarge

-- the file that was written is too large to be read
pub record IsTooLargeToRead (statics : List Strings) (dependents : List Dependent) : Type 0 where
  pub bytes : List ℕ
  pub written : IsWritten statics dependents bytes
  pub swells : SwellsInReading bytes

-- the file that was written doesn't read as the messages that this machine has
pub record IsNotReadBack (statics : List Strings) (dependents : List Dependent) : Type 0 where
  pub bytes : List ℕ
  pub written : IsWritten statics dependents bytes
  pub otherwise : ReadsOtherwise bytes (messages_here statics dependents)

-- why the messages have no such file, or out of memory
abbrev pub HasNoFile : List Strings → List Dependent → FileFault → Type 0
HasNoFile statics dependents (Text fault) = fault ≡ Load out_of_memory
HasNoFile statics dependents TooLarge = IsTooLargeToWrite statics dependents ⊎ IsTooLargeToRead statics dependents
HasNoFile statics dependents NotReadBack = IsNotReadBack statics dependents
HasNoFile statics dependents (Catalogue fault) =
    LacksCatalogue statics fault ⊎ LacksCatalogue (messages_here statics dependents) fault
