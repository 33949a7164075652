-- A written text is UTF-8.
use Rattle.std.proofs.Common.{◌≡◌, ℕ, ◌+◌, ◌<◌, ◌≤◌, Bool, true, List, [], ◌∷◌, ◌++◌, length, Option, None, Some, refl}
use Rattle.std.proofs.Common.{ltb, arith, inl, inr}
use Rattle.std.specs.Prelude.{IfSome, codes}
use Rattle.std.specs.List.{AllByRecursion, flat_map, list_all}
use Rattle.std.specs.Str.{IsUtf8}
use Rattle.std.specs.Fmt.{decimal}
use Rattle.std.proofs.lemmas.Bool.{cases_Bool, ltb-true}
use Rattle.std.proofs.lemmas.Str.{IsUtf8-append, IsUtf8-nil}
use Rattle.message.specs.Message.{Entry, first_form}
use Rattle.po_writing.specs.Written.{written_bytes, literal, parts_of, written_string, written_context, indexed_keyword}
use Rattle.po_writing.specs.Written.{written_forms, written_translation, written_entry, po_of}
use Rattle.po_writing.proofs.Bytes.{AreAscii, utf8_from_ascii, written_utf8}
use Rattle.po_writing.proofs.Parts.{utf8_parts}
use Rattle.po_writing.proofs.Digits.{index_ascii}
use Rattle.po_writing.proofs.Chained.{IsString, IsWritable, first_string}

ascii_all : (text : List ℕ) → list_all (λ b. ltb b 128) text ≡ true → AreAscii text
ascii_all [] all = tt
ascii_all (b ∷ text) all = elim (cases_Bool (ltb b 128)) [
  | inl low ↦ (ltb-true b 128 low, ascii_all text (rw low at all))
  | inr high ↦ let none = rw high at all in absurd (cc none)
]

-- a text that is written out and ASCII
ascii : (text : List ℕ) → list_all (λ b. ltb b 128) text ≡ true → IsUtf8 text
ascii text all = utf8_from_ascii text (ascii_all text all)

literal_utf8 : (escape : Bool) (part : List ℕ) → IsUtf8 part → IsUtf8 (literal escape part)
literal_utf8 escape part u = IsUtf8-append (34 ∷ []) (written_bytes escape part ++ 34 ∷ 10 ∷ [])
    (ascii (34 ∷ []) refl) (IsUtf8-append (written_bytes escape part) (34 ∷ 10 ∷ []) (written_utf8 escape part u)
    (ascii (34 ∷ 10 ∷ []) refl))

literals_utf8 : (escape : Bool) (parts : List (List ℕ)) → AllByRecursion IsUtf8 parts
    → IsUtf8 (flat_map (literal escape) parts)
literals_utf8 escape [] u = IsUtf8-nil
literals_utf8 escape (part ∷ parts) u = IsUtf8-append (literal escape part) (flat_map (literal escape) parts)
    (literal_utf8 escape part u.0) (literals_utf8 escape parts u.1)

string_utf8 : (escape : Bool) (keyword text : List ℕ) → IsUtf8 keyword → IsString text
    → IsUtf8 (written_string escape keyword text)
string_utf8 escape keyword text k h = IsUtf8-append keyword (32 ∷ flat_map (literal escape) (parts_of text)) k
    (IsUtf8-append (32 ∷ []) (flat_map (literal escape) (parts_of text)) (ascii (32 ∷ []) refl)
    (literals_utf8 escape (parts_of text) (utf8_parts text h.utf8)))

context_utf8 : (escape : Bool) (context : Option (List ℕ)) → IfSome context IsString
    → IsUtf8 (written_context escape context)
context_utf8 escape None h = IsUtf8-nil
context_utf8 escape (Some context) h = string_utf8 escape (codes "msgctxt") context (ascii (codes "msgctxt") refl) h

indexed_utf8 : (k : ℕ) → k < 1000000000 → IsUtf8 (indexed_keyword k)
indexed_utf8 k few = IsUtf8-append (codes "msgstr[") (decimal k ++ codes "]") (ascii (codes "msgstr[") refl)
    (IsUtf8-append (decimal k) (codes "]") (utf8_from_ascii (decimal k) (index_ascii k few)) (ascii (codes "]") refl))

forms_utf8 : (escape : Bool) (k : ℕ) (forms : List (List ℕ)) → k + length forms ≤ 1000000000
    → AllByRecursion IsString forms → IsUtf8 (written_forms escape k forms)
forms_utf8 escape k [] few h = IsUtf8-nil
forms_utf8 escape k (form ∷ more) few h = IsUtf8-append (written_string escape (indexed_keyword k) form)
    (written_forms escape (k + 1) more)
    (string_utf8 escape (indexed_keyword k) form (indexed_utf8 k (omega arith)) h.0)
    (forms_utf8 escape (k + 1) more (omega arith) h.1)

translation_utf8 : (escape : Bool) (plural : Option (List ℕ)) (forms : List (List ℕ)) → IfSome plural IsString
    → AllByRecursion IsString forms → 0 < length forms → length forms ≤ 1000000000
    → IsUtf8 (written_translation escape plural forms)
translation_utf8 escape None forms h all some few = string_utf8 escape (codes "msgstr") (first_form forms)
    (ascii (codes "msgstr") refl) (first_string forms some all)
translation_utf8 escape (Some plural) forms h all some few = IsUtf8-append
    (written_string escape (codes "msgid_plural") plural) (written_forms escape 0 forms)
    (string_utf8 escape (codes "msgid_plural") plural (ascii (codes "msgid_plural") refl) h)
    (forms_utf8 escape 0 forms (omega arith) all)

entry_utf8 : (escape : Bool) (e : Entry) → IsWritable e → IsUtf8 (written_entry escape e)
entry_utf8 escape e h = IsUtf8-append (written_context escape e.context)
    (written_string escape (codes "msgid") e.id ++ written_translation escape e.plural e.forms)
    (context_utf8 escape e.context h.context)
    (IsUtf8-append (written_string escape (codes "msgid") e.id) (written_translation escape e.plural e.forms)
    (string_utf8 escape (codes "msgid") e.id (ascii (codes "msgid") refl) h.id)
    (translation_utf8 escape e.plural e.forms h.plural h.forms h.some h.few))

later_utf8 : (escape : Bool) (m : List Entry) → AllByRecursion IsWritable m
    → IsUtf8 (flat_map (λ e. 10 ∷ written_entry escape e) m)
later_utf8 escape [] h = IsUtf8-nil
later_utf8 escape (e ∷ more) h = IsUtf8-append (10 ∷ written_entry escape e)
    (flat_map (λ f. 10 ∷ written_entry escape f) more)
    (IsUtf8-append (10 ∷ []) (written_entry escape e) (ascii (10 ∷ []) refl) (entry_utf8 escape e h.0))
    (later_utf8 escape more h.1)

pub po_utf8 : (escape : Bool) (m : List Entry) → AllByRecursion IsWritable m → IsUtf8 (po_of escape m)
po_utf8 escape [] h = IsUtf8-nil
po_utf8 escape (e ∷ more) h = IsUtf8-append (written_entry escape e) (flat_map (λ f. 10 ∷ written_entry escape f) more)
    (entry_utf8 escape e h.0) (later_utf8 escape more h.1)
