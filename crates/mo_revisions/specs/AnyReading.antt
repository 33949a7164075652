-- Which bytes are an MO file of which catalogue, in any revision.
use Rattle.std.specs.Prelude.{◌⊎◌, ℕ, ◌≤◌, List, length}
use Rattle.mo_image.specs.Entry.{Entry}
use Rattle.mo_image.specs.MoFile.{most_file}
use Rattle.mo_file.specs.MoReading.{file_of, Mo, Refused}
use Rattle.mo_file.specs.declared.fault.MoFault.TheVariants.{Revision}
use Rattle.mo_segments.specs.MessageStrings.{Strings}
use Rattle.mo_segments.specs.Flat.{AreKept, flat_file}
use Rattle.mo_revisions.specs.Revisions.{HasMessages}

-- the catalogue of messages: that of the file of revision 0.0 with the first message of each key
pub record IsCatalogueOf (messages : List Strings) (m : List Entry) : Type 0 where
  pub kept : List Strings
  pub are_kept : AreKept messages kept
  pub fits : length (flat_file kept) ≤ most_file
  pub flat : Mo (flat_file kept) m

-- what a file means that strict reading refuses for its revision
pub record MeansMessages (bytes : List ℕ) (m : List Entry) : Type 0 where
  pub refused : Refused bytes Revision
  pub messages : List Strings
  pub has : HasMessages (file_of bytes) messages
  pub means : IsCatalogueOf messages m

-- the bytes are a file of this catalogue: by strict reading or, where that refuses the revision, by its messages
abbrev pub AnyMo : List ℕ → List Entry → Type 0
AnyMo bytes m = Mo bytes m ⊎ MeansMessages bytes m
