-- Private: what each step towards a file can fail for.
use Rattle.std.specs.Prelude.{◌≡◌, ℕ, List}
use Rattle.mo_image.specs.Entry.{Entry}
use Rattle.mo_segments.specs.MessageStrings.{Strings}
use Rattle.mo_dependent.specs.Layout.{IsWriteFault}
use Rattle.mo_dependent.specs.declared.split.Dependent.{Dependent}
use Rattle.mo_dependent.specs.declared.fault.WriteFault.TheVariants as write
use Rattle.dependent_files.specs.MessagesFile.{LacksCatalogue, ReadsOtherwise, SwellsInReading, out_of_memory, Load}
use Rattle.dependent_files.specs.declared.fault.FileFault.{FileFault}
use Rattle.dependent_files.specs.declared.fault.FileFault.TheVariants.{Text, TooLarge, NotReadBack, Catalogue}

-- the messages have no catalogue, or out of memory
abbrev pub IsCatalogueFault : List Strings → FileFault → Type 0
IsCatalogueFault messages (Text fault) = fault ≡ Load out_of_memory
IsCatalogueFault messages (Catalogue fault) = LacksCatalogue messages fault
IsCatalogueFault messages _ = ⊥

-- the file would be too large, or out of memory
abbrev pub IsWritingFault : List Entry → List Dependent → FileFault → Type 0
IsWritingFault m dependents (Text fault) = fault ≡ Load out_of_memory
IsWritingFault m dependents TooLarge = IsWriteFault m dependents write.TooLarge
IsWritingFault m dependents _ = ⊥

-- the file is too large to be read, or doesn't read as these messages, or out of memory
abbrev pub IsReadingFault : List ℕ → List Strings → FileFault → Type 0
IsReadingFault bytes messages (Text fault) = fault ≡ Load out_of_memory
IsReadingFault bytes messages TooLarge = SwellsInReading bytes
IsReadingFault bytes messages NotReadBack = ReadsOtherwise bytes messages
IsReadingFault bytes messages (Catalogue fault) = ⊥
