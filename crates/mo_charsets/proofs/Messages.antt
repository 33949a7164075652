-- One more message of several, decoded or not.
use Rattle.std.proofs.Common.{◌≡◌, ℕ, suc, ◌<◌, List, [], ◌∷◌, ◌++◌, length, take, get_or, ap, sym, subst, ◌∙◌}
use Rattle.std.proofs.Math.Seq.{take-suc}
use Rattle.std.proofs.lemmas.List.{length-map, map-append}
use Rattle.std.proofs.Math.ListN.{get_or-map}
use Rattle.std.proofs.lemmas.List.Elements.{AllZip-push}
use Rattle.charsets.specs.declared.kinds.Charset.{Charset}
use Rattle.mo_segments.specs.declared.messages.Strings.{Strings as Held}
use Rattle.mo_segments.specs.MessageStrings.{Strings, strings_in, strings_of}
use Rattle.mo_charsets.specs.declared.fault.RecodedFault.{RecodedFault}
use Rattle.mo_charsets.specs.declared.fault.RecodedFault.TheVariants.{Any, NoCharacter}
use Rattle.mo_charsets.specs.MoRecoding.{IsMessageDecoded, AreDecoded}
use Rattle.mo_charsets.specs.MoFailing.{FailsForMessage, FailsForMessages}

pub one_fails : (charset : Charset) (messages : List Held) (i : ℕ) (message : Held) (fault : RecodedFault)
    → i < length messages → message ≡ get_or messages i message → FailsForMessage charset (strings_in message) fault
    → FailsForMessages charset (strings_of messages) fault
one_fails charset messages i message NoCharacter lt is h = (
  i,
  strings_in message,
  subst (λ (n : ℕ). i < n) (sym (length-map messages strings_in)) lt,
  get_or-map strings_in messages i message ∙ ap strings_in (sym is),
  h,
)
one_fails charset messages i message (Any fault) lt is h = h

pub one_more : (charset : Charset) (messages : List Held) (i n : ℕ) (message : Held) (done : List Held) (decoded : Held)
    → n ≡ suc i → i < length messages → message ≡ get_or messages i message
    → AreDecoded charset (strings_of (take i messages)) (strings_of done)
    → IsMessageDecoded charset (strings_in message) (strings_in decoded)
    → AreDecoded charset (strings_of (take n messages)) (strings_of (done ++ decoded ∷ []))
one_more charset messages i n message done decoded next lt is before h =
    let front : strings_of (take n messages) ≡ strings_of (take i messages) ++ strings_in message ∷ [] =
    ap (λ (k : ℕ). strings_of (take k messages)) next
    ∙ ap strings_of (take-suc messages i message lt ∙ ap (λ (m : Held). take i messages ++ m ∷ []) (sym is))
    ∙ map-append strings_in (take i messages) (message ∷ []) in
    let back = map-append strings_in done (decoded ∷ []) in
    subst (λ (ms : List Strings). AreDecoded charset ms (strings_of (done ++ decoded ∷ []))) (sym front) (
    subst (λ (ds : List Strings). AreDecoded charset (strings_of (take i messages) ++ strings_in message ∷ []) ds)
    (sym back) (AllZip-push (IsMessageDecoded charset) (strings_of (take i messages)) (strings_of done)
    (strings_in message) (strings_in decoded) before h))
