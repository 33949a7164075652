-- The lexemes of a written text, and the entries that they derive.
use Rattle.std.proofs.Common.{◌≡◌, ◌≢◌, ℕ, ◌+◌, ◌<◌, List, [], ◌∷◌, ◌++◌, length, map, Option, None, Some}
use Rattle.std.proofs.Common.{refl, sym, ap, ◌∙◌, subst, arith}
use Rattle.std.specs.Prelude.{Contains, IfSome, option_map}
use Rattle.std.specs.List.{AllByRecursion, flat_map, concat}
use Rattle.message.specs.Message.{Entry, first_form, LacksByte, HasForms}
use Rattle.byte_text.specs.Chain.{Chain}
use Rattle.po_text.specs.Spelling.{Token, Context, Id, Plural, Str, Number, Open, Close, Text, Piece, White, Comment}
use Rattle.po_text.specs.Spelling.{Word, OpenBracket, CloseBracket, Quoted, Lexeme, lexemes, newlines}
use Rattle.po_text.specs.Entries as po
use Rattle.po_text.specs.Entries.{Strings, Part, PlainPart, PluralPart, Derivation, texts, context_tokens, form_tokens}
use Rattle.po_text.specs.Entries.{part_tokens, tokens_of, IsLawfulEntry, IsKeyText, IsLawfulContext, IsLawfulPart}
use Rattle.po_text.specs.Entries.{IsOneOrMore, entry_of, EntryAt, Remaining, joined_option, plural_of, forms_of}
use Rattle.po_text.specs.Entries.{first_form_line, is_flagged}
use Rattle.catalogue.specs.Meaning.{message_of}
use Rattle.po_writing.specs.Written.{parts_of}
use Rattle.po_writing.specs.Laws.{HasNoFlag}
use Rattle.po_writing.proofs.Parts.{concat-parts_of, some_parts}
use Rattle.po_writing.proofs.Chained.{literal_pieces, context_pieces, form_pieces, translation_pieces}
use Rattle.po_writing.proofs.Chained.{entry_pieces, later_pieces, po_pieces, lacks_none}

-- ---- lexemes of pieces without comments

abbrev Clean : List Piece → Type 0
Clean [] = Unit {0}
Clean (Comment after ∷ more) = ⊥
Clean (p ∷ more) = Clean more

Clean-append : (ps qs : List Piece) → Clean ps → Clean qs → Clean (ps ++ qs)
Clean-append [] qs a b = b
Clean-append (White x ∷ ps) qs a b = Clean-append ps qs a b
Clean-append (Comment x ∷ ps) qs a b = absurd a
Clean-append (Word x t ∷ ps) qs a b = Clean-append ps qs a b
Clean-append (OpenBracket ∷ ps) qs a b = Clean-append ps qs a b
Clean-append (CloseBracket ∷ ps) qs a b = Clean-append ps qs a b
Clean-append (Quoted x ∷ ps) qs a b = Clean-append ps qs a b

abbrev end_line : ℕ → List Piece → ℕ
end_line line [] = line
end_line line (White b ∷ more) = end_line (line + newlines (b ∷ [])) more
end_line line (p ∷ more) = end_line line more

abbrev lexeme : ℕ → Token → Lexeme
lexeme line token = record { marks = []; line = line; token = token }

lexemes-append : (line : ℕ) (ps qs : List Piece) → Clean ps
    → lexemes line [] (ps ++ qs) ≡ lexemes line [] ps ++ lexemes (end_line line ps) [] qs
lexemes-append line [] qs clean = refl
lexemes-append line (White b ∷ ps) qs clean = lexemes-append (line + newlines (b ∷ [])) ps qs clean
lexemes-append line (Comment a ∷ ps) qs clean = absurd clean
lexemes-append line (Word bytes t ∷ ps) qs clean = ap (λ (ls : List Lexeme). lexeme line t ∷ ls)
    (lexemes-append line ps qs clean)
lexemes-append line (OpenBracket ∷ ps) qs clean = ap (λ (ls : List Lexeme). lexeme line Open ∷ ls)
    (lexemes-append line ps qs clean)
lexemes-append line (CloseBracket ∷ ps) qs clean = ap (λ (ls : List Lexeme). lexeme line Close ∷ ls)
    (lexemes-append line ps qs clean)
lexemes-append line (Quoted bytes ∷ ps) qs clean = ap (λ (ls : List Lexeme). lexeme line (Text bytes) ∷ ls)
    (lexemes-append line ps qs clean)

abbrev tokens_in : List Piece → List Token
tokens_in [] = []
tokens_in (White b ∷ more) = tokens_in more
tokens_in (Comment a ∷ more) = tokens_in more
tokens_in (Word bytes t ∷ more) = t ∷ tokens_in more
tokens_in (OpenBracket ∷ more) = Open ∷ tokens_in more
tokens_in (CloseBracket ∷ more) = Close ∷ tokens_in more
tokens_in (Quoted bytes ∷ more) = Text bytes ∷ tokens_in more

tokens_found : (line : ℕ) (ps : List Piece) → Clean ps → map (λ (l : Lexeme). l.token) (lexemes line [] ps)
    ≡ tokens_in ps
tokens_found line [] clean = refl
tokens_found line (White b ∷ ps) clean = tokens_found (line + newlines (b ∷ [])) ps clean
tokens_found line (Comment a ∷ ps) clean = absurd clean
tokens_found line (Word bytes t ∷ ps) clean = ap (λ (ts : List Token). t ∷ ts) (tokens_found line ps clean)
tokens_found line (OpenBracket ∷ ps) clean = ap (λ (ts : List Token). Open ∷ ts) (tokens_found line ps clean)
tokens_found line (CloseBracket ∷ ps) clean = ap (λ (ts : List Token). Close ∷ ts) (tokens_found line ps clean)
tokens_found line (Quoted bytes ∷ ps) clean = ap (λ (ts : List Token). Text bytes ∷ ts) (tokens_found line ps clean)

abbrev HasNoMarks : Lexeme → Type 0
HasNoMarks l = l.marks ≡ []

no_marks : (line : ℕ) (ps : List Piece) → Clean ps → AllByRecursion HasNoMarks (lexemes line [] ps)
no_marks line [] clean = tt
no_marks line (White b ∷ ps) clean = no_marks (line + newlines (b ∷ [])) ps clean
no_marks line (Comment a ∷ ps) clean = absurd clean
no_marks line (Word bytes t ∷ ps) clean = (refl, no_marks line ps clean)
no_marks line (OpenBracket ∷ ps) clean = (refl, no_marks line ps clean)
no_marks line (CloseBracket ∷ ps) clean = (refl, no_marks line ps clean)
no_marks line (Quoted bytes ∷ ps) clean = (refl, no_marks line ps clean)

tokens_in-append : (ps qs : List Piece) → tokens_in (ps ++ qs) ≡ tokens_in ps ++ tokens_in qs
tokens_in-append [] qs = refl
tokens_in-append (White b ∷ ps) qs = tokens_in-append ps qs
tokens_in-append (Comment a ∷ ps) qs = tokens_in-append ps qs
tokens_in-append (Word bytes t ∷ ps) qs = ap (λ (ts : List Token). t ∷ ts) (tokens_in-append ps qs)
tokens_in-append (OpenBracket ∷ ps) qs = ap (λ (ts : List Token). Open ∷ ts) (tokens_in-append ps qs)
tokens_in-append (CloseBracket ∷ ps) qs = ap (λ (ts : List Token). Close ∷ ts) (tokens_in-append ps qs)
tokens_in-append (Quoted bytes ∷ ps) qs = ap (λ (ts : List Token). Text bytes ∷ ts) (tokens_in-append ps qs)

-- ---- the pieces of an entry

literal_tokens : (parts : List (List ℕ)) → tokens_in (literal_pieces parts) ≡ texts parts
literal_tokens [] = refl
literal_tokens (part ∷ parts) = ap (λ (ts : List Token). Text part ∷ ts) (literal_tokens parts)

literal_clean : (parts : List (List ℕ)) → Clean (literal_pieces parts)
literal_clean [] = tt
literal_clean (part ∷ parts) = literal_clean parts

abbrev part_of : Option (List ℕ) → List (List ℕ) → Part
part_of None forms = PlainPart (parts_of (first_form forms))
part_of (Some plural) forms = PluralPart (parts_of plural) (map parts_of forms)

abbrev derivation_of : Entry → Derivation
derivation_of e = record {
  context = option_map parts_of e.context;
  id = parts_of e.id;
  part = part_of e.plural e.forms;
}

form_pieces_tokens : (k : ℕ) (forms : List (List ℕ)) → tokens_in (form_pieces k forms)
    ≡ form_tokens k (map parts_of forms)
form_pieces_tokens k [] = refl
form_pieces_tokens k (form ∷ more) =
    ap (λ (ts : List Token). Str ∷ Open ∷ Number k ∷ Close ∷ ts)
    (tokens_in-append (literal_pieces (parts_of form)) (form_pieces (k + 1) more)
    ∙ ap (λ (ts : List Token). ts ++ tokens_in (form_pieces (k + 1) more)) (literal_tokens (parts_of form))
    ∙ ap (λ (ts : List Token). texts (parts_of form) ++ ts) (form_pieces_tokens (k + 1) more))

form_pieces_clean : (k : ℕ) (forms : List (List ℕ)) → Clean (form_pieces k forms)
form_pieces_clean k [] = tt
form_pieces_clean k (form ∷ more) = Clean-append (literal_pieces (parts_of form)) (form_pieces (k + 1) more)
    (literal_clean (parts_of form)) (form_pieces_clean (k + 1) more)

translation_tokens : (plural : Option (List ℕ)) (forms : List (List ℕ)) → tokens_in (translation_pieces plural forms)
    ≡ part_tokens (part_of plural forms)
translation_tokens None forms = ap (λ (ts : List Token). Str ∷ ts) (literal_tokens (parts_of (first_form forms)))
translation_tokens (Some plural) forms =
    ap (λ (ts : List Token). Plural ∷ ts)
    (tokens_in-append (literal_pieces (parts_of plural)) (form_pieces 0 forms)
    ∙ ap (λ (ts : List Token). ts ++ tokens_in (form_pieces 0 forms)) (literal_tokens (parts_of plural))
    ∙ ap (λ (ts : List Token). texts (parts_of plural) ++ ts) (form_pieces_tokens 0 forms))

translation_clean : (plural : Option (List ℕ)) (forms : List (List ℕ)) → Clean (translation_pieces plural forms)
translation_clean None forms = literal_clean (parts_of (first_form forms))
translation_clean (Some plural) forms = Clean-append (literal_pieces (parts_of plural)) (form_pieces 0 forms)
    (literal_clean (parts_of plural)) (form_pieces_clean 0 forms)

id_tokens : (id : List ℕ) (more : List Piece) (others : List Token) → tokens_in more ≡ others
    → tokens_in (literal_pieces (parts_of id) ++ more) ≡ texts (parts_of id) ++ others
id_tokens id more others e =
    tokens_in-append (literal_pieces (parts_of id)) more
    ∙ ap (λ (ts : List Token). ts ++ tokens_in more) (literal_tokens (parts_of id))
    ∙ ap (λ (ts : List Token). texts (parts_of id) ++ ts) e

context_front : (context : Option (List ℕ)) (more : List Piece) (others : List Token) → tokens_in more ≡ others
    → tokens_in (context_pieces context ++ more) ≡ context_tokens (option_map parts_of context) ++ others
context_front None more others e = e
context_front (Some context) more others e = ap (λ (ts : List Token). Context ∷ ts) (id_tokens context more others e)

entry_tokens : (e : Entry) → tokens_in (entry_pieces e) ≡ tokens_of (derivation_of e)
entry_tokens e = context_front e.context _ _ (ap (λ (ts : List Token). Id ∷ ts) (id_tokens e.id
    (translation_pieces e.plural e.forms) (part_tokens (part_of e.plural e.forms))
    (translation_tokens e.plural e.forms)))

context_clean : (context : Option (List ℕ)) → Clean (context_pieces context)
context_clean None = tt
context_clean (Some context) = literal_clean (parts_of context)

entry_clean : (e : Entry) → Clean (entry_pieces e)
entry_clean e = Clean-append (context_pieces e.context) _ (context_clean e.context)
    (Clean-append (literal_pieces (parts_of e.id)) (translation_pieces e.plural e.forms) (literal_clean (parts_of e.id))
    (translation_clean e.plural e.forms))

-- ---- what an entry derives

-- an entry that a derivation can give
pub record IsDerivable (e : Entry) : Type 0 where
  pub context : IfSome e.context (λ text. LacksByte 4 text)
  pub id : LacksByte 4 e.id
  pub counted : HasForms e.plural e.forms

key_text : (text : List ℕ) → LacksByte 4 text → IsKeyText (parts_of text)
key_text text lacks = (
  some_parts text,
  subst (λ (t : List ℕ). ¬ Contains t 4) (sym (concat-parts_of text))
      (lacks_none 4 text lacks),
)

lawful_context : (context : Option (List ℕ)) → IfSome context (λ text. LacksByte 4 text)
    → IsLawfulContext (option_map parts_of context)
lawful_context None h = tt
lawful_context (Some context) h = key_text context h

all_some : (forms : List (List ℕ)) → AllByRecursion IsOneOrMore (map parts_of forms)
all_some [] = tt
all_some (form ∷ more) = (some_parts form, all_some more)

some_forms : (forms : List (List ℕ)) → 0 < length forms → map parts_of forms ≢ []
some_forms [] some e = absurd (omega arith)
some_forms (form ∷ more) some e = absurd (cc e)

lawful_part : (plural : Option (List ℕ)) (forms : List (List ℕ)) → HasForms plural forms
    → IsLawfulPart (part_of plural forms)
lawful_part None forms h = some_parts (first_form forms)
lawful_part (Some plural) forms h = (some_parts plural, some_forms forms h, all_some forms)

lawful_derivation : (e : Entry) → IsDerivable e → IsLawfulEntry (derivation_of e)
lawful_derivation e h = record {
  context = lawful_context e.context h.context;
  id = key_text e.id h.id;
  part = lawful_part e.plural e.forms h.counted;
}

context_again : (context : Option (List ℕ)) → joined_option (option_map parts_of context) ≡ context
context_again None = refl
context_again (Some context) = ap Some (concat-parts_of context)

plural_again : (plural : Option (List ℕ)) (forms : List (List ℕ)) → plural_of (part_of plural forms) ≡ plural
plural_again None forms = refl
plural_again (Some plural) forms = ap Some (concat-parts_of plural)

all_again : (forms : List (List ℕ)) → map concat (map parts_of forms) ≡ forms
all_again [] = refl
all_again (form ∷ more) = rw (concat-parts_of form) (ap (λ (fs : List (List ℕ)). form ∷ fs) (all_again more))

forms_again : (plural : Option (List ℕ)) (forms : List (List ℕ)) → HasForms plural forms
    → forms_of (part_of plural forms) ≡ forms
forms_again None [] h = absurd (omega (arith, h))
forms_again None (form ∷ []) h = ap (λ (f : List ℕ). f ∷ []) (concat-parts_of form)
forms_again None (form ∷ other ∷ more) h = absurd (omega (arith, h))
forms_again (Some plural) forms h = all_again forms

-- the entries that lexemes derive are those of the map, without flags
pub record FoundIn (found : List Lexeme) (m : List Entry) : Type 0 where
  pub entries : List po.Entry
  pub each : Chain EntryAt entries ([], found) ([], [])
  pub messages_are : map message_of entries ≡ m
  pub no_flags : AllByRecursion HasNoFlag entries

some_tokens : (context : Option Strings) (more : List Token) → [] ≡ context_tokens context ++ (Id ∷ more) → ⊥
some_tokens None more e = absurd (cc e)
some_tokens (Some parts) more e = absurd (cc e)

marks_of_none : (ls : List Lexeme) → AllByRecursion HasNoMarks ls → [] ≡ flat_map (λ (l : Lexeme). l.marks) ls
marks_of_none [] none = refl
marks_of_none (l ∷ ls) none = let first = none.0 in rw first (marks_of_none ls none.1)

entry_front : (e : Entry) (xs rest : List Lexeme) (m : List Entry) → IsDerivable e
    → map (λ (l : Lexeme). l.token) xs ≡ tokens_of (derivation_of e) → AllByRecursion HasNoMarks xs → FoundIn rest m
    → FoundIn (xs ++ rest) (e ∷ m)
entry_front e [] rest m h tokens none more = absurd (some_tokens (option_map parts_of e.context) _ tokens)
entry_front e (first ∷ others) rest m h tokens none more =
    let d = derivation_of e in
    let x = entry_of first.line (first_form_line others) ([] ++ first.marks) d in
    let at : EntryAt x ([], first ∷ others ++ rest) ([], rest) = record {
      first = first;
      others = others;
      derivation = d;
      split = refl;
      tokens = tokens;
      lawful = lawful_derivation e h;
      entry = refl;
      marks = marks_of_none others none.1;
    } in
    let same : message_of x ≡ e = rw (
      context_again e.context,
      concat-parts_of e.id,
      plural_again e.plural e.forms,
      forms_again e.plural e.forms h.counted,
    ) refl in
    let unmarked = none.0 in
    record {
      entries = x ∷ more.entries;
      each = (([], rest), at, more.each);
      messages_are = rw (same, more.messages_are) refl;
      no_flags = (
        record { not_fuzzy = rw unmarked refl; no_format = rw unmarked refl; no_formats = rw unmarked refl },
        more.no_flags,
      );
    }

entry_found : (line : ℕ) (e : Entry) (ps : List Piece) (m : List Entry) → IsDerivable e
    → FoundIn (lexemes (end_line line (entry_pieces e)) [] ps) m
    → FoundIn (lexemes line [] (entry_pieces e ++ ps)) (e ∷ m)
entry_found line e ps m h more =
    let clean = entry_clean e in
    rw (lexemes-append line (entry_pieces e) ps clean) (entry_front e (lexemes line [] (entry_pieces e)) _ m h
    (tokens_found line (entry_pieces e) clean ∙ entry_tokens e) (no_marks line (entry_pieces e) clean) more)

later_found : (m : List Entry) (line : ℕ) → AllByRecursion IsDerivable m → FoundIn (lexemes line [] (later_pieces m)) m
later_found [] line h = record { entries = []; each = refl; messages_are = refl; no_flags = tt }
later_found (e ∷ more) line h = entry_found (line + newlines (10 ∷ [])) e (later_pieces more) more h.0
    (later_found more (end_line (line + newlines (10 ∷ [])) (entry_pieces e)) h.1)

pub po_found : (m : List Entry) → AllByRecursion IsDerivable m → FoundIn (lexemes 1 [] (po_pieces m)) m
po_found [] h = record { entries = []; each = refl; messages_are = refl; no_flags = tt }
po_found (e ∷ more) h = entry_found 1 e (later_pieces more) more h.0
    (later_found more (end_line 1 (entry_pieces e)) h.1)
