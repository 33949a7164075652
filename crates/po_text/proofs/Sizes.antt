-- The entries of a text take at most twice its size in an MO file.
use Rattle.std.proofs.Common.{◌≡◌, ℕ, ◌+◌, ◌*◌, ◌≤◌, Bool, true, cond, List, [], ◌∷◌}
use Rattle.std.proofs.Common.{◌++◌, map, drop, take, length, Option, Some, None, refl, ap, arith, length-append}
use Rattle.std.specs.Prelude.{◌&&◌, codes}
use Rattle.std.specs.List.{concat}
use Rattle.std.specs.Str.{bytes_eq}
use Rattle.std.proofs.lemmas.Bool.{cond_both, leb-true}
use Rattle.std.proofs.lemmas.List.{length-map, length-drop, map-append}
use Rattle.std.proofs.lemmas.Option.{cond_some}
use Rattle.std.proofs.lemmas.Slice.Eq.{bytes_eq-Decides}
use Rattle.byte_text.specs.Chain.{Chain}
use Rattle.po_text.specs.Spelling.{Token, Context, Id, Plural, Str, Text, Mark, Lexeme, lexemes, StringUnit, Octal}
use Rattle.po_text.specs.Spelling.{UnitAt, UnitsAt, unit_value, Piece, White, Comment, Word}
use Rattle.po_text.specs.Spelling.{Quoted, PieceAt, word_token, number_of, newlines, comment_marks}
use Rattle.po_text.specs.Entries.{Strings, Part, PlainPart, PluralPart, Derivation, texts}
use Rattle.po_text.specs.Entries.{context_tokens, form_tokens, part_tokens, tokens_of, Entry, joined_option}
use Rattle.po_text.specs.Entries.{plural_of, forms_of, entry_of, Remaining, EntryAt, all_tokens, first_form_line}
use Rattle.po_text.specs.Outcome.{Reads, Gives, body, byte_order_mark}

-- ---- sizes in an MO file (GNU gettext manual, The Format of GNU MO Files)

-- a string and its closing NUL
abbrev pub text_size : List ℕ → ℕ
text_size t = length t + 1

abbrev pub option_size : Option (List ℕ) → ℕ
option_size None = 0
option_size (Some t) = text_size t

abbrev pub forms_size : List (List ℕ) → ℕ
forms_size [] = 0
forms_size (form ∷ more) = text_size form + forms_size more

-- an entry's row of 8 bytes in each of the two tables, and its strings
abbrev pub entry_size : Entry → ℕ
entry_size e = 16 + option_size e.context + text_size e.id + option_size e.plural + forms_size e.forms

abbrev pub entries_size : List Entry → ℕ
entries_size [] = 0
entries_size (e ∷ es) = entry_size e + entries_size es

-- ---- the least that a token takes in a text

abbrev token_size : Token → ℕ
token_size Context = 7
token_size Id = 5
token_size Plural = 12
token_size Str = 6
token_size (Text bytes) = 2 + length bytes
token_size _ = 1

abbrev tokens_size : List Token → ℕ
tokens_size [] = 0
tokens_size (t ∷ ts) = token_size t + tokens_size ts

tokens_size-append : (xs ys : List Token) → tokens_size (xs ++ ys) ≡ tokens_size xs + tokens_size ys
tokens_size-append [] ys = omega arith
tokens_size-append (x ∷ xs) ys = omega (arith, tokens_size-append xs ys)

-- a unit takes at least one byte and has one value
unit_size : (u : StringUnit) (s t : List ℕ) → UnitAt u s t → 1 + length t ≤ length s
unit_size (Octal digits) s t at = omega (arith, ap length at.0, length-append digits t)
unit_size _ s t at = omega (arith, ap length at.0)

units_size : (units : List StringUnit) (s t : List ℕ) → Chain UnitAt units s t → length units + length t ≤ length s
units_size [] s t e = omega (arith, ap length e)
units_size (u ∷ units) s t (m, at, rest) = omega (arith, unit_size u s m at, units_size units m t rest)

values_size : (values s t : List ℕ) → UnitsAt values s t → length values + length t ≤ length s
values_size values s t h = omega (
  arith,
  units_size h.units s t h.each,
  ap length h.values_are,
  length-map h.units
      unit_value,
)

-- a word that is compared with a keyword
keyword_size : (word keyword : List ℕ) (t token : Token) (other : Option Token) → length keyword ≡ token_size t
    → (other ≡ Some token → token_size token ≤ length word)
    → cond (bytes_eq word keyword) (Some t) other ≡ Some token → token_size token ≤ length word
keyword_size word keyword t token other size more = cond_both (bytes_eq word keyword) (Some t) other
    (λ (o : Option Token). o ≡ Some token → token_size token ≤ length word)
    (λ test e. let same : t ≡ token = cc e in omega (
      arith,
      ap token_size same,
      ap length
          ((bytes_eq-Decides word keyword).0 test),
    ))
    (λ test. more)

middle : (a b c : Bool) → (a && (b && c)) ≡ true → b ≡ true
middle true true c e = refl
middle _ _ c e = absurd (cc e)

number_size : (word : List ℕ) (token : Token) → number_of word ≡ Some token → token_size token ≤ length word
number_size word token e =
    let (test, same) = cond_some _ _ token e in
    omega (arith, ap token_size same, leb-true 1 (length word) (middle _ _ _ test))

word_size : (word : List ℕ) (token : Token) → word_token word ≡ Some token → token_size token ≤ length word
word_size word token =
    keyword_size word (codes "msgctxt") Context token _ refl
    (keyword_size word (codes "msgid") Id token _ refl
    (keyword_size word (codes "msgid_plural") Plural token _ refl
    (keyword_size word (codes "msgstr") Str token _ refl (number_size word token))))

-- ---- a text is at least as long as its tokens

pieces_size : (pieces : List Piece) (line : ℕ) (marks : List Mark) (s t : List ℕ) → Chain PieceAt pieces s t
    → tokens_size (all_tokens (lexemes line marks pieces)) + length t ≤ length s
pieces_size [] line marks s t e = omega (arith, ap length e)
pieces_size (White b ∷ more) line marks s t (m, at, rest) = omega
    (arith, ap length at.0, pieces_size more (line + newlines (b ∷ [])) marks m t rest)
pieces_size (Comment after ∷ more) line marks s t (m, at, rest) = omega
    (arith, ap length at.0, length-append after m, pieces_size more line (marks ++ comment_marks after) m t rest)
pieces_size (Word bytes token ∷ more) line marks s t (m, at, rest) = omega
    (arith, ap length at.0, length-append bytes m, word_size bytes token at.2, pieces_size more line [] m t rest)
pieces_size (Quoted bytes ∷ more) line marks s t (m, at, rest) = omega
    (arith, ap length at.1, values_size bytes at.0 (34 ∷ m) at.2, pieces_size more line [] m t rest)
pieces_size (_ ∷ more) line marks s t (m, at, rest) = omega (arith, ap length at, pieces_size more line [] m t rest)

-- ---- an entry takes at most twice as much as its tokens

texts_size : (parts : Strings) → length (concat parts) ≤ tokens_size (texts parts)
texts_size [] = omega arith
texts_size (b ∷ parts) = omega (arith, length-append b (concat parts), texts_size parts)

context_size : (c : Option Strings) → option_size (joined_option c) ≤ tokens_size (context_tokens c)
context_size None = omega arith
context_size (Some parts) = omega (arith, texts_size parts)

indexed_size : (k : ℕ) (forms : List Strings) → forms_size (map concat forms) ≤ tokens_size (form_tokens k forms)
indexed_size k [] = omega arith
indexed_size k (form ∷ forms) = omega (
  arith,
  texts_size form,
  tokens_size-append (texts form)
      (form_tokens (k + 1) forms),
  indexed_size (k + 1) forms,
)

-- the keywords of a part are at least 5 bytes longer than the NULs of its strings
part_size : (part : Part) → option_size (plural_of part) + forms_size (forms_of part) + 5 ≤ tokens_size
    (part_tokens part)
part_size (PlainPart form) = omega (arith, texts_size form)
part_size (PluralPart plural forms) = omega (
  arith,
  texts_size plural,
  tokens_size-append (texts plural)
      (form_tokens 0 forms),
  indexed_size 0 forms,
)

derivation_size : (line form_line : ℕ) (marks : List Mark) (d : Derivation)
    → entry_size (entry_of line form_line marks d) ≤ 2 * tokens_size (tokens_of d)
derivation_size line form_line marks d =
    omega (
      arith,
      context_size d.context,
      texts_size d.id,
      part_size d.part,
      tokens_size-append
          (context_tokens d.context) (Id ∷ texts d.id ++ part_tokens d.part),
      tokens_size-append (texts d.id)
          (part_tokens d.part),
    )

-- ---- the entries of a text

entry_at_size : (e : Entry) (now later : Remaining) → EntryAt e now later
    → entry_size e + 2 * tokens_size (all_tokens later.1) ≤ 2 * tokens_size (all_tokens now.1)
entry_at_size e now later at =
    let front = all_tokens (at.first ∷ at.others) in
    let cut = map-append (λ (l : Lexeme). l.token) (at.first ∷ at.others) later.1 in
    omega (
      arith,
      ap entry_size at.entry,
      derivation_size at.first.line (first_form_line at.others) (now.0 ++ at.first.marks) at.derivation,
      ap
          tokens_size at.tokens,
      ap (λ (ls : List Lexeme). tokens_size (all_tokens ls)) at.split,
      ap tokens_size cut,
      tokens_size-append front (all_tokens later.1),
    )

chain_size : (entries : List Entry) (now later : Remaining) → Chain EntryAt entries now later
    → entries_size entries + 2 * tokens_size (all_tokens later.1) ≤ 2 * tokens_size (all_tokens now.1)
chain_size [] now later e = omega (arith, ap (λ (l : Remaining). tokens_size (all_tokens l.1)) e)
chain_size (e ∷ es) now later (m, at, rest) = omega (arith, entry_at_size e now m at, chain_size es m later rest)

reads_size : (text : List ℕ) (entries : List Entry) → Reads text entries → entries_size entries ≤ 2 * length text
reads_size text entries (found, spells, (marks, derives)) =
    omega (
      arith,
      chain_size entries ([], found) (marks, []) derives,
      pieces_size spells.pieces 1 [] text []
          spells.each,
      ap (λ (ls : List Lexeme). tokens_size (all_tokens ls)) spells.found_are,
    )

body_size : (text : List ℕ) → length (body text) ≤ length text
body_size text = cond_both (bytes_eq (take 3 text) byte_order_mark) (drop 3 text) text
    (λ (t : List ℕ). length t ≤ length text) (λ e. omega (arith, length-drop 3 text)) (λ e. omega arith)

-- the entries of a text take at most twice its size
pub gives_size : (text : List ℕ) (entries : List Entry) → Gives text entries → entries_size entries ≤ 2 * length text
gives_size text entries h = omega (arith, reads_size (body text) entries h.reads, body_size text)

-- each entry has its two rows
rows_size : (entries : List Entry) → 16 * length entries ≤ entries_size entries
rows_size [] = omega arith
rows_size (e ∷ es) = omega (arith, rows_size es)

-- a text has at least as many bytes as entries
pub gives_count : (text : List ℕ) (entries : List Entry) → Gives text entries → length entries ≤ length text
gives_count text entries h = omega (arith, rows_size entries, gives_size text entries h)
