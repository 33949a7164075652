-- The messages of an MO file in another charset, decoded (GNU gettext manual, "Header Entry": Content-Type).
use Rattle.std.specs.Prelude.{◌≡◌, ◌⊎◌, ℕ, List, [], ◌∷◌, Option, Some, None}
use Rattle.std.specs.List.{AllZip}
use Rattle.charsets.specs.declared.kinds.Charset.{Charset}
use Rattle.charsets.specs.Decoding.{IsDecoded}
use Rattle.any_charset.specs.Declaring.{NamesAt}
use Rattle.mo_image.specs.Entry.{Entry}
use Rattle.mo_file.specs.MoReading.{file_of}
use Rattle.mo_file.specs.declared.fault.MoFault.TheVariants.{BadText, Charset as UnknownCharset}
use Rattle.mo_segments.specs.MessageStrings.{Strings}
use Rattle.mo_revisions.specs.Revisions.{HasMessages}
use Rattle.mo_revisions.specs.AnyReading.{AnyMo, IsCatalogueOf}
use Rattle.mo_revisions.specs.Refusing.{AnyRefused}
use Rattle.mo_revisions.specs.declared.fault.AnyMoFault.{AnyMoFault}
use Rattle.mo_revisions.specs.declared.fault.AnyMoFault.TheVariants.{Mo as OfMo}

-- ---- the header

-- the translation of the first message, if its original is empty
abbrev pub header_of : List Strings → Option (List ℕ)
header_of ((([], translation)) ∷ messages) = Some translation
header_of _ = None

-- the messages with another translation of the first one
abbrev pub with_header : List ℕ → List Strings → List Strings
with_header header [] = []
with_header header (message ∷ messages) = (message.0, header) ∷ messages

-- ---- decoding

-- both strings of the message are decoded
abbrev pub IsMessageDecoded : Charset → Strings → Strings → Type 0
IsMessageDecoded charset message decoded = IsDecoded charset message.0 decoded.0 × IsDecoded charset message.1 decoded.1

abbrev pub AreDecoded : Charset → List Strings → List Strings → Type 0
AreDecoded charset messages decoded = AllZip (IsMessageDecoded charset) messages decoded

-- the header names this charset; named are the messages with UTF-8 in place of the name
pub record NamesCharset (messages : List Strings) (charset : Charset) (named : List Strings) : Type 0 where
  pub header : List ℕ
  pub is : header_of messages ≡ Some header
  pub at : ℕ
  pub renamed : List ℕ
  pub names : NamesAt header at charset renamed
  pub named_is : named ≡ with_header renamed messages

-- the messages, decoded from the charset that their header names
abbrev pub AreRecoded : List Strings → List Strings → Type 0
AreRecoded messages recoded =
    (charset : Charset) × (named : List Strings) × NamesCharset messages charset named
    × AreDecoded charset named recoded

-- ---- the catalogue

-- the refusals that a file in another charset can have
abbrev pub IsForCharset : AnyMoFault → Type 0
IsForCharset fault = (fault ≡ OfMo BadText) ⊎ (fault ≡ OfMo UnknownCharset)

-- as UTF-8 the file is refused for its charset
abbrev pub IsForeign : List ℕ → Type 0
IsForeign bytes = (fault : AnyMoFault) × IsForCharset fault × AnyRefused bytes fault

-- the catalogue of a file in another charset: that of its messages, once they are decoded
pub record MeansRecoded (bytes : List ℕ) (m : List Entry) : Type 0 where
  pub foreign : IsForeign bytes
  pub messages : List Strings
  pub has : HasMessages (file_of bytes) messages
  pub recoded : List Strings
  pub recodes : AreRecoded messages recoded
  pub means : IsCatalogueOf recoded m

-- the bytes are a file of this catalogue, as they are or decoded
abbrev pub AnyCharsetMo : List ℕ → List Entry → Type 0
AnyCharsetMo bytes m = AnyMo bytes m ⊎ MeansRecoded bytes m
