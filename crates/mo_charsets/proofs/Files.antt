-- What follows for a file that is refused for its charset, and why it is refused further on.
use Rattle.std.proofs.Common.{ℕ, ◌<◌, List, subst, arith, inl, inr, refl}
use Rattle.std.specs.Prelude.{Result, Ok, Err, IfErr}
use Rattle.charsets.specs.declared.kinds.Charset.{Charset}
use Rattle.mo_file.specs.MoReading.{file_of, rank, PassesBelow}
use Rattle.mo_file.specs.declared.fault.MoFault.{MoFault}
use Rattle.mo_file.specs.declared.fault.MoFault.TheVariants.{BadText, Charset as UnknownCharset}
use Rattle.mo_segments.specs.MessageStrings.{Strings}
use Rattle.mo_revisions.specs.Revisions.{HasMessages}
use Rattle.mo_revisions.specs.Refusing.{AnyRefused}
use Rattle.mo_revisions.specs.declared.fault.AnyMoFault.{AnyMoFault}
use Rattle.mo_revisions.specs.declared.fault.AnyMoFault.TheVariants.{Mo as OfMo}
use Rattle.mo_charsets.specs.declared.fault.RecodedFault.{RecodedFault}
use Rattle.mo_charsets.specs.declared.fault.RecodedFault.TheVariants.{Any, NoCharacter}
use Rattle.mo_charsets.specs.MoRecoding.{IsForCharset, IsForeign, NamesCharset}
use Rattle.mo_charsets.specs.MoFailing.{AnyCharsetRefused, FailsForMessages, NamesNoCharset, RefusesRecoded}

passes_front : (bytes : List ℕ) (fault : MoFault) → 2 < rank fault → rank fault < 12 → AnyRefused bytes (OfMo fault)
    → PassesBelow (file_of bytes) 3
passes_front bytes fault more known (inl strict) other lt = (strict.1 known).1 other (omega (arith, more, lt))
passes_front bytes fault more known (inr beyond) other lt = (beyond.refused (omega arith)).1 other (omega (arith, lt))

pub passes_size : (bytes : List ℕ) (fault : AnyMoFault) → IsForCharset fault → AnyRefused bytes fault
    → PassesBelow (file_of bytes) 3
passes_size bytes fault (inl is) h =
    passes_front bytes BadText (omega arith) (omega arith) (subst (AnyRefused bytes) is h)
passes_size bytes fault (inr is) h =
    passes_front bytes UnknownCharset (omega arith) (omega arith) (subst (AnyRefused bytes) is h)

-- the messages of the file name no charset
pub no_charset : (bytes : List ℕ) (messages : List Strings) (strict : AnyMoFault) → HasMessages (file_of bytes) messages
    → NamesNoCharset messages → RefusesRecoded bytes strict (Any strict)
no_charset bytes messages strict has none = inr (inl (refl, record { messages = messages; has = has; none = none }))

-- the messages of the file aren't decoded
pub not_decoded : (bytes : List ℕ) (messages named : List Strings) (charset : Charset) (strict : AnyMoFault)
    (fault : RecodedFault) → IsForeign bytes → HasMessages (file_of bytes) messages
    → NamesCharset messages charset named → FailsForMessages charset named fault → RefusesRecoded bytes strict fault
not_decoded bytes messages named charset strict NoCharacter foreign has names lacks = record {
  foreign = foreign;
  messages = messages;
  has = has;
  charset = charset;
  named = named;
  names = names;
  lacks = lacks;
}
not_decoded bytes messages named charset strict (Any fault) foreign has names memory = inl (let e = memory in cc e)

-- the file is in another charset, and is refused for that
pub foreign_fails : {X : Type 0} (bytes : List ℕ) (strict : AnyMoFault) (r : Result X RecodedFault)
    → IsForCharset strict → AnyRefused bytes strict → IfErr r (RefusesRecoded bytes strict)
    → IfErr r (AnyCharsetRefused bytes)
foreign_fails bytes strict (Ok x) is refused h = tt
foreign_fails bytes strict (Err fault) is refused h = inr (strict, is, refused, h)
