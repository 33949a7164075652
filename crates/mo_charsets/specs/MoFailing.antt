-- Why an MO file in another charset is refused.
use Rattle.std.specs.Prelude.{◌≡◌, ◌⊎◌, ℕ, List, Some}
use Rattle.std.specs.List.{Any as AnyOf}
use Rattle.charsets.specs.declared.kinds.Charset.{Charset}
use Rattle.charsets.specs.Decoding.{IsFirstWithNone}
use Rattle.any_charset.specs.Declaring.{NamesNone}
use Rattle.mo_file.specs.MoReading.{file_of}
use Rattle.mo_file.specs.declared.fault.MoFault.{MoFault}
use Rattle.mo_file.specs.declared.fault.MoFault.TheVariants.{Memory}
use Rattle.mo_segments.specs.MessageStrings.{Strings}
use Rattle.mo_revisions.specs.Revisions.{HasMessages}
use Rattle.mo_revisions.specs.Refusing.{AnyRefused, IsMessagesFault, HasNoCatalogue}
use Rattle.mo_revisions.specs.declared.fault.AnyMoFault.{AnyMoFault}
use Rattle.mo_revisions.specs.declared.fault.AnyMoFault.TheVariants.{Mo as OfMo}
use Rattle.mo_charsets.specs.declared.fault.RecodedFault.{RecodedFault}
use Rattle.mo_charsets.specs.declared.fault.RecodedFault.TheVariants.{Any, NoCharacter}
use Rattle.mo_charsets.specs.MoRecoding.{header_of, IsForCharset, IsForeign, NamesCharset, AreRecoded}

-- ---- decoding

-- a byte of the string has no character
abbrev pub LacksCharacter : Charset → List ℕ → Type 0
LacksCharacter charset string = (at : ℕ) × IsFirstWithNone charset string at

abbrev pub LacksCharacterIn : Charset → Strings → Type 0
LacksCharacterIn charset message = LacksCharacter charset message.0 ⊎ LacksCharacter charset message.1

abbrev pub is_out_of_memory : RecodedFault → Type 0
is_out_of_memory fault = fault ≡ Any (OfMo Memory)

-- a string, a message and messages can't be decoded, or memory ran out
abbrev pub FailsToDecode : Charset → List ℕ → RecodedFault → Type 0
FailsToDecode charset string NoCharacter = LacksCharacter charset string
FailsToDecode charset string fault = is_out_of_memory fault

abbrev pub FailsForMessage : Charset → Strings → RecodedFault → Type 0
FailsForMessage charset message NoCharacter = LacksCharacterIn charset message
FailsForMessage charset message fault = is_out_of_memory fault

abbrev pub FailsForMessages : Charset → List Strings → RecodedFault → Type 0
FailsForMessages charset messages NoCharacter = AnyOf (LacksCharacterIn charset) messages
FailsForMessages charset messages fault = is_out_of_memory fault

-- ---- the file

-- there is no header, or it names no charset that is known here
abbrev pub NamesNoCharset : List Strings → Type 0
NamesNoCharset messages = (header : List ℕ) → header_of messages ≡ Some header → NamesNone header

-- the messages of the file name no charset
pub record LacksCharset (bytes : List ℕ) : Type 0 where
  pub messages : List Strings
  pub has : HasMessages (file_of bytes) messages
  pub none : NamesNoCharset messages

-- the decoded messages have no catalogue
pub record LacksRecodedCatalogue (bytes : List ℕ) (fault : AnyMoFault) : Type 0 where
  pub messages : List Strings
  pub has : HasMessages (file_of bytes) messages
  pub recoded : List Strings
  pub recodes : AreRecoded messages recoded
  pub reason : MoFault
  pub is : fault ≡ OfMo reason
  pub no_catalogue : HasNoCatalogue recoded reason

-- the charset has no character for a byte of a message
pub record HasNoCharacter (bytes : List ℕ) : Type 0 where
  pub foreign : IsForeign bytes
  pub messages : List Strings
  pub has : HasMessages (file_of bytes) messages
  pub charset : Charset
  pub named : List Strings
  pub names : NamesCharset messages charset named
  pub lacks : AnyOf (LacksCharacterIn charset) named

-- why a file is refused that was refused as UTF-8 with `strict`: for the same where it names no charset, for its
-- messages, for a byte, or once it is decoded; or out of memory
abbrev pub RefusesRecoded : List ℕ → AnyMoFault → RecodedFault → Type 0
RefusesRecoded bytes strict NoCharacter = HasNoCharacter bytes
RefusesRecoded bytes strict (Any fault) = (fault ≡ OfMo Memory) ⊎ ((fault ≡ strict) × LacksCharset bytes)
    ⊎ IsMessagesFault (file_of bytes) fault ⊎ LacksRecodedCatalogue bytes fault

-- the bytes are refused as they are, for another reason than their charset
abbrev pub IsPlainRefusal : List ℕ → RecodedFault → Type 0
IsPlainRefusal bytes (Any fault) = ¬ IsForCharset fault × AnyRefused bytes fault
IsPlainRefusal bytes NoCharacter = ⊥

-- the bytes are refused for their charset, and then for this
abbrev pub IsForeignRefusal : List ℕ → RecodedFault → Type 0
IsForeignRefusal bytes fault =
    (strict : AnyMoFault) × IsForCharset strict × AnyRefused bytes strict × RefusesRecoded bytes strict fault

-- why a file in any charset is refused
abbrev pub AnyCharsetRefused : List ℕ → RecodedFault → Type 0
AnyCharsetRefused bytes fault = IsPlainRefusal bytes fault ⊎ IsForeignRefusal bytes fault
