-- What a text gives: its entries, or its first fault (GNU gettext manual, "PO Files").

-- This project chose the order of the faults: size, UTF-8, the first lexical fault, the first grammar fault.
use Rattle.std.specs.Prelude.{◌≡◌, ℕ, ◌+◌, ◌<◌, ◌≤◌, List, [], ◌∷◌, take, drop, length, ◌⊎◌, if◌then◌else◌}
use Rattle.std.specs.Str.{IsUtf8, bytes_eq}
use Rattle.std.specs.Str.Lossy.{utf8_valid_len}
use Rattle.po_text.specs.declared.fault.PoKind.{PoKind}
use Rattle.po_text.specs.declared.fault.PoKind.TheVariants.{TooLarge, NotUtf8, BadOrder}
use Rattle.po_text.specs.Spelling.{Lexeme, Spells, HasFault, newlines}
use Rattle.po_text.specs.Entries.{Entry, Derives, ClosesAt, EndsEarly}

-- the lexemes aren't entries: one of them isn't allowed where it is, or they end in the middle of an entry
abbrev pub HasGrammarFault : List Lexeme → PoKind → ℕ → Type 0
HasGrammarFault found kind line = ClosesAt found kind line ⊎ ((kind ≡ BadOrder) × EndsEarly found line)

-- the entries of a text after its byte order mark
abbrev pub Reads : List ℕ → List Entry → Type 0
Reads text entries = (found : List Lexeme) × Spells text found × Derives found entries

-- the fault of such a text, a grammar fault only if there is no lexical one
abbrev pub IsFaulty : List ℕ → PoKind → ℕ → Type 0
IsFaulty text kind line =
    HasFault text kind line ⊎ ((found : List Lexeme) × Spells text found × HasGrammarFault found kind line)

-- U+FEFF in UTF-8 (the Unicode Standard, 2.6)
abbrev pub byte_order_mark : List ℕ
byte_order_mark = 239 ∷ 187 ∷ 191 ∷ []

-- the text without its byte order mark, if it begins with one (ours)
abbrev pub body : List ℕ → List ℕ
body text = if bytes_eq (take 3 text) byte_order_mark then drop 3 text else text

-- the maximum size of a text in bytes, its byte order mark included: 64 MiB
abbrev pub max_text : ℕ
max_text = 67108864

-- the text can be read: it isn't too large, and it is UTF-8
pub record IsReadable (text : List ℕ) : Type 0 where
  pub size : length text ≤ max_text
  pub utf8 : IsUtf8 text

-- the text isn't UTF-8; the line is that of the first byte of the first sequence that can't be decoded
pub record IsUndecodable (text : List ℕ) (line : ℕ) : Type 0 where
  pub size : length text ≤ max_text
  pub undecodable : ¬ IsUtf8 text
  pub line_is : line ≡ newlines (take (utf8_valid_len text) text) + 1

-- the text gives these entries
pub record Gives (text : List ℕ) (entries : List Entry) : Type 0 where
  pub readable : IsReadable text
  pub reads : Reads (body text) entries

-- the text is refused, with this kind of fault on this line
abbrev pub Refuses : List ℕ → PoKind → ℕ → Type 0
Refuses text TooLarge line = (max_text < length text) × (line ≡ 0)
Refuses text NotUtf8 line = IsUndecodable text line
Refuses text kind line = IsReadable text × IsFaulty (body text) kind line
