-- The pieces of a written text.
use Rattle.std.proofs.Common.{◌≡◌, ◌≢◌, ℕ, ◌+◌, ◌<◌, ◌≤◌, Bool, List, [], ◌∷◌, ◌++◌, length, Option, None, Some, refl}
use Rattle.std.proofs.Common.{ap, ◌∙◌, arith, append_assoc, zero, suc}
use Rattle.std.specs.Prelude.{Contains, IfSome, codes}
use Rattle.std.specs.List.{AllByRecursion, flat_map, take_while}
use Rattle.std.specs.Str.{IsUtf8}
use Rattle.std.specs.Fmt.{decimal}
use Rattle.message.specs.Message.{Entry, first_form, LacksByte}
use Rattle.byte_text.specs.Chain.{Chain}
use Rattle.po_text.specs.Spelling.{Token, Context, Id, Plural, Str, Number, Piece, White, Word, OpenBracket}
use Rattle.po_text.specs.Spelling.{CloseBracket, Quoted, PieceAt, IsLawful, is_word_byte, word_token}
use Rattle.po_text.proofs.Chains.{Chain-append}
use Rattle.po_writing.specs.Written.{written_bytes, literal, parts_of, written_string, written_context, indexed_keyword}
use Rattle.po_writing.specs.Written.{written_forms, written_translation, written_entry, po_of}
use Rattle.po_writing.proofs.Bytes.{written_units, bytes_of_utf8}
use Rattle.po_writing.proofs.Parts.{all_parts, utf8_parts}
use Rattle.po_writing.proofs.Digits.{index_stops, index_token}

-- ---- pieces

abbrev pub literal_pieces : List (List ℕ) → List Piece
literal_pieces [] = []
literal_pieces (part ∷ parts) = Quoted part ∷ White 10 ∷ literal_pieces parts

abbrev pub string_pieces : List ℕ → List Piece
string_pieces text = White 32 ∷ literal_pieces (parts_of text)

abbrev pub context_pieces : Option (List ℕ) → List Piece
context_pieces None = []
context_pieces (Some context) = Word (codes "msgctxt") Context ∷ string_pieces context

abbrev pub form_pieces : ℕ → List (List ℕ) → List Piece
form_pieces k [] = []
form_pieces k (form ∷ more) =
    (Word (codes "msgstr") Str ∷ OpenBracket ∷ Word (decimal k) (Number k) ∷ CloseBracket ∷ string_pieces form)
    ++ form_pieces (k + 1) more

abbrev pub translation_pieces : Option (List ℕ) → List (List ℕ) → List Piece
translation_pieces None forms = Word (codes "msgstr") Str ∷ string_pieces (first_form forms)
translation_pieces (Some plural) forms =
    (Word (codes "msgid_plural") Plural ∷ string_pieces plural) ++ form_pieces 0 forms

abbrev pub entry_pieces : Entry → List Piece
entry_pieces e = context_pieces e.context
    ++ ((Word (codes "msgid") Id ∷ string_pieces e.id) ++ translation_pieces e.plural e.forms)

abbrev pub later_pieces : List Entry → List Piece
later_pieces m = flat_map (λ e. White 10 ∷ entry_pieces e) m

abbrev pub po_pieces : List Entry → List Piece
po_pieces [] = []
po_pieces (e ∷ more) = entry_pieces e ++ later_pieces more

-- ---- strings

contains_cases : (b x : ℕ) (text : List ℕ) → Contains (b ∷ text) x → (b ≡ x → ⊥) → Contains text x
contains_cases b x text (zero, lt, e) other = absurd (other e)
contains_cases b x text (suc k, lt, e) other = (k, omega (arith, lt), e)

pub lacks_none : (x : ℕ) (text : List ℕ) → LacksByte x text → ¬ Contains text x
lacks_none x [] lacks h = absurd (omega (arith, h.1))
lacks_none x (b ∷ text) lacks h = lacks_none x text lacks.1 (contains_cases b x text h lacks.0)

-- parts that can be written
record AreParts (parts : List (List ℕ)) : Type 0 where
  utf8 : AllByRecursion IsUtf8 parts
  no_nul : AllByRecursion (λ part. LacksByte 0 part) parts

parts_chain : (escape : Bool) (parts : List (List ℕ)) (rest : List ℕ) → AllByRecursion IsUtf8 parts
    → AllByRecursion (λ part. LacksByte 0 part) parts
    → Chain PieceAt (literal_pieces parts) (flat_map (literal escape) parts ++ rest) rest
parts_chain escape [] rest utf8 lacks = refl
parts_chain escape (part ∷ parts) rest utf8 lacks =
    let written = written_bytes escape part in
    let others = flat_map (literal escape) parts in
    let units = written_units escape part (34 ∷ 10 ∷ (others ++ rest)) (bytes_of_utf8 part utf8.0) in
    let split : (literal escape part ++ others) ++ rest ≡ 34 ∷ (written ++ 34 ∷ 10 ∷ (others ++ rest)) =
    ap (λ (t : List ℕ). 34 ∷ t) (append_assoc (written ++ 34 ∷ 10 ∷ []) others rest
    ∙ append_assoc written (34 ∷ 10 ∷ []) (others ++ rest)) in
    let lawful : IsLawful part = record { no_nul = lacks_none 0 part lacks.0; utf8 = utf8.0 } in (
      10 ∷ (others ++ rest),
      (written ++ 34 ∷ 10 ∷ (others ++ rest), split, units, lawful),
      (others ++ rest, (refl, refl), parts_chain escape parts rest utf8.1 lacks.1),
    )

-- a text that can be written as a string
pub record IsString (text : List ℕ) : Type 0 where
  pub utf8 : IsUtf8 text
  pub no_nul : LacksByte 0 text

string_chain : (escape : Bool) (text rest : List ℕ) → IsString text → Chain PieceAt (string_pieces text)
    ((32 ∷ flat_map (literal escape) (parts_of text)) ++ rest) rest
string_chain escape text rest h = (
  flat_map (literal escape) (parts_of text) ++ rest,
  (refl, refl),
  parts_chain escape (parts_of text) rest (utf8_parts text h.utf8) (all_parts (λ b. b ≢ 0) text h.no_nul),
)

-- a keyword and its string
keyword_chain : (escape : Bool) (bytes : List ℕ) (token : Token) (text rest : List ℕ)
    → ((r : List ℕ) → take_while is_word_byte (bytes ++ 32 ∷ r) ≡ bytes) → word_token bytes ≡ Some token
    → IsString text → Chain PieceAt (Word bytes token ∷ string_pieces text) (written_string escape bytes text ++ rest)
    rest
keyword_chain escape bytes token text rest run is h =
    let string = 32 ∷ flat_map (literal escape) (parts_of text) in
    let split : (bytes ++ string) ++ rest ≡ bytes ++ (string ++ rest) = append_assoc bytes string rest in (
      string ++ rest,
      (split, ap (λ (t : List ℕ). take_while is_word_byte t) split ∙ run _, is),
      string_chain escape text rest h,
    )

-- ---- entries

context_chain : (escape : Bool) (context : Option (List ℕ)) (rest : List ℕ) → IfSome context IsString
    → Chain PieceAt (context_pieces context) (written_context escape context ++ rest) rest
context_chain escape None rest h = refl
context_chain escape (Some context) rest h = keyword_chain escape (codes "msgctxt") Context context rest (λ r. refl)
    refl h

form_chain : (escape : Bool) (k : ℕ) (form rest : List ℕ) → k < 1000000000 → IsString form → Chain PieceAt
    (Word (codes "msgstr") Str ∷ OpenBracket ∷ Word (decimal k) (Number k) ∷ CloseBracket ∷ string_pieces form)
    (written_string escape (indexed_keyword k) form ++ rest) rest
form_chain escape k form rest few h =
    let string = 32 ∷ flat_map (literal escape) (parts_of form) in
    let back = ((decimal k ++ 93 ∷ []) ++ string) ++ rest in
    let split : back ≡ decimal k ++ 93 ∷ (string ++ rest) = append_assoc (decimal k ++ 93 ∷ []) string rest
    ∙ append_assoc (decimal k) (93 ∷ []) (string ++ rest) in (
      91 ∷ back,
      (refl, refl, refl),
      (
        back,
        refl,
        (
          93 ∷ (string ++ rest),
          (
            split,
            ap (λ (t : List ℕ). take_while is_word_byte t) split ∙ index_stops k (string ++ rest) few,
            index_token k few,
          ),
          (string ++ rest, refl, string_chain escape form rest h),
        ),
      ),
    )

forms_chain : (escape : Bool) (k : ℕ) (forms : List (List ℕ)) (rest : List ℕ) → k + length forms ≤ 1000000000
    → AllByRecursion IsString forms → Chain PieceAt (form_pieces k forms) (written_forms escape k forms ++ rest) rest
forms_chain escape k [] rest few h = refl
forms_chain escape k (form ∷ more) rest few h =
    let later = written_forms escape (k + 1) more in
    let one = written_string escape (indexed_keyword k) form in
    Chain-append PieceAt
    (Word (codes "msgstr") Str ∷ OpenBracket ∷ Word (decimal k) (Number k) ∷ CloseBracket ∷ string_pieces form)
    (form_pieces (k + 1) more) ((one ++ later) ++ rest) (later ++ rest) rest
    (rw (append_assoc one later rest) (form_chain escape k form (later ++ rest) (omega arith) h.0))
    (forms_chain escape (k + 1) more rest (omega arith) h.1)

-- an entry that can be written
pub record IsWritable (e : Entry) : Type 0 where
  pub context : IfSome e.context IsString
  pub id : IsString e.id
  pub plural : IfSome e.plural IsString
  pub forms : AllByRecursion IsString e.forms
  pub some : 0 < length e.forms
  pub few : length e.forms ≤ 1000000000

pub first_string : (forms : List (List ℕ)) → 0 < length forms → AllByRecursion IsString forms
    → IsString (first_form forms)
first_string [] some h = absurd (omega arith)
first_string (form ∷ more) some h = h.0

translation_chain : (escape : Bool) (plural : Option (List ℕ)) (forms : List (List ℕ)) (rest : List ℕ)
    → IfSome plural IsString → AllByRecursion IsString forms → 0 < length forms → length forms ≤ 1000000000
    → Chain PieceAt (translation_pieces plural forms) (written_translation escape plural forms ++ rest) rest
translation_chain escape None forms rest h all some few = keyword_chain escape (codes "msgstr") Str (first_form forms)
    rest (λ r. refl) refl (first_string forms some all)
translation_chain escape (Some plural) forms rest h all some few =
    let one = written_string escape (codes "msgid_plural") plural in
    let later = written_forms escape 0 forms in
    Chain-append PieceAt (Word (codes "msgid_plural") Plural ∷ string_pieces plural) (form_pieces 0 forms)
    ((one ++ later) ++ rest) (later ++ rest) rest
    (rw (append_assoc one later rest) (keyword_chain escape (codes "msgid_plural") Plural plural (later ++ rest)
    (λ r. refl) refl h)) (forms_chain escape 0 forms rest (omega arith) all)

entry_chain : (escape : Bool) (e : Entry) (rest : List ℕ) → IsWritable e
    → Chain PieceAt (entry_pieces e) (written_entry escape e ++ rest) rest
entry_chain escape e rest h =
    let front = written_context escape e.context in
    let id = written_string escape (codes "msgid") e.id in
    let back = written_translation escape e.plural e.forms in
    let split : (front ++ (id ++ back)) ++ rest ≡ front ++ (id ++ (back ++ rest)) = append_assoc front (id ++ back) rest
    ∙ ap (λ (t : List ℕ). front ++ t) (append_assoc id back rest) in
    rw split (Chain-append PieceAt (context_pieces e.context)
    ((Word (codes "msgid") Id ∷ string_pieces e.id) ++ translation_pieces e.plural e.forms)
    (front ++ (id ++ (back ++ rest))) (id ++ (back ++ rest)) rest (context_chain escape e.context _ h.context)
    (Chain-append PieceAt (Word (codes "msgid") Id ∷ string_pieces e.id) (translation_pieces e.plural e.forms)
    (id ++ (back ++ rest)) (back ++ rest) rest
    (keyword_chain escape (codes "msgid") Id e.id (back ++ rest) (λ r. refl) refl h.id)
    (translation_chain escape e.plural e.forms rest h.plural h.forms h.some h.few)))

later_chain : (escape : Bool) (m : List Entry) → AllByRecursion IsWritable m
    → Chain PieceAt (later_pieces m) (flat_map (λ e. 10 ∷ written_entry escape e) m) []
later_chain escape [] h = refl
later_chain escape (e ∷ more) h =
    let later = flat_map (λ f. 10 ∷ written_entry escape f) more in (
      written_entry escape e ++ later,
      (refl, refl),
      Chain-append PieceAt (entry_pieces e) (later_pieces more) (written_entry escape e ++ later) later []
          (entry_chain escape e later h.0) (later_chain escape more h.1),
    )

-- the written text is these pieces
pub po_chain : (escape : Bool) (m : List Entry) → AllByRecursion IsWritable m
    → Chain PieceAt (po_pieces m) (po_of escape m) []
po_chain escape [] h = refl
po_chain escape (e ∷ more) h =
    let later = flat_map (λ f. 10 ∷ written_entry escape f) more in
    Chain-append PieceAt (entry_pieces e) (later_pieces more) (written_entry escape e ++ later) later []
    (entry_chain escape e later h.0) (later_chain escape more h.1)
