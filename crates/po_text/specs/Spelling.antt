-- Which tokens a text spells, and which lexical fault it has (GNU gettext manual, "PO Files"; C standard, 6.4.4.4
-- and 6.4.5: escapes in strings).

-- Rules of our own, which neither document has, are marked (ours).
pub use Rattle.byte_text.specs.Characters.{comma, open_bracket, backslash, close_bracket, underscore, tilde}
use Rattle.std.specs.Prelude.{◌≡◌, ◌≢◌, ℕ, ◌+◌, ◌-◌, ◌*◌, ◌<◌, ◌≤◌, Bool, true, false, not, ◌&&◌, ◌||◌, ◌==◌, nat_le}
use Rattle.std.specs.Prelude.{if◌then◌else◌, List, [], ◌∷◌, ◌++◌, map, length, take, Option, None, Some, ◌⊎◌, codes}
use Rattle.std.specs.List.{take_while, slice_split, fold, count_by, Contains, list_all}
use Rattle.std.specs.Str.{IsUtf8, bytes_eq}
use Rattle.std.specs.Char.{is_ascii_alphanumeric, is_ascii_digit}
use Rattle.po_text.specs.declared.fault.PoKind.{PoKind}
use Rattle.po_text.specs.declared.fault.PoKind.TheVariants.{BadEscape, OpenString, BadWord, BadText}
use Rattle.byte_text.specs.Chain.{Chain}
use Rattle.byte_text.specs.Decimal.{decimal_value}

-- ---- bytes

abbrev pub line_feed : ℕ
line_feed = 10

-- `"`
abbrev pub quote : ℕ
quote = 34

-- `#`
abbrev pub number_sign : ℕ
number_sign = 35

-- white space: tab, LF, VT, FF, CR, space (C 5.2.1, 6.4; that a lone CR ends no line is ours)
abbrev pub is_white : ℕ → Bool
is_white b = (nat_le 9 b && nat_le b 13) || b == 32

-- a byte of a word: an ASCII letter or digit, or `_` (ours)
abbrev pub is_word_byte : ℕ → Bool
is_word_byte b = is_ascii_alphanumeric b || b == underscore

-- `0` to `7` (C 6.4.4.4)
abbrev pub is_octal : ℕ → Bool
is_octal b = nat_le 48 b && nat_le b 55

-- a byte that stands for itself in a string (C 6.4.5)
abbrev pub is_plain : ℕ → Bool
is_plain b = not ((b == quote || b == backslash) || b == line_feed)

abbrev pub is_not_line_end : ℕ → Bool
is_not_line_end b = not (b == line_feed)

-- ---- strings

-- the byte that a backslash and this letter stand for: n t b r f v a, a backslash and a quote (C 6.4.4.4, without `\'`,
-- `\?` and `\x`)
abbrev pub escaped_byte : ℕ → Option ℕ
escaped_byte c =
    if c == 110 then Some 10 else
    if c == 116 then Some 9 else
    if c == 98 then Some 8 else
    if c == 114 then Some 13 else
    if c == 102 then Some 12 else
    if c == 118 then Some 11 else
    if c == 97 then Some 7 else
    if c == backslash then Some backslash else
    if c == quote then Some quote else None

-- the octal digits at the front, at most three (C 6.4.4.4)
unfoldable pub octal_run : List ℕ → List ℕ
octal_run text = take_while is_octal (take 3 text)

abbrev pub octal_value : List ℕ → ℕ
octal_value digits = fold (λ n d. 8 * n + (d - 48)) 0 digits

-- one byte of a string's value: a plain byte; a backslash and a letter; a backslash and octal digits (C 6.4.5)
pub data StringUnit : Type 0 where
  Plain : (b : ℕ) → StringUnit
  Escape : (letter value : ℕ) → StringUnit
  Octal : (digits : List ℕ) → StringUnit

abbrev pub unit_value : StringUnit → ℕ
unit_value (Plain b) = b
unit_value (Escape c v) = v
unit_value (Octal digits) = octal_value digits

-- the text is the unit followed by the rest; an octal escape takes as many digits as it can, and is at most 255 (ours)
abbrev pub UnitAt : StringUnit → List ℕ → List ℕ → Type 0
UnitAt (Plain b) text rest = (text ≡ b ∷ rest) × (is_plain b ≡ true)
UnitAt (Escape c v) text rest = (text ≡ backslash ∷ c ∷ rest) × (escaped_byte c ≡ Some v)
UnitAt (Octal digits) text rest =
    (text ≡ backslash ∷ digits ++ rest) × (octal_run (digits ++ rest) ≡ digits) × (digits ≢ [])
    × (octal_value digits ≤ 255)

-- the text is units with these values, followed by the rest
pub record UnitsAt (values text rest : List ℕ) : Type 0 where
  pub units : List StringUnit
  pub each : Chain UnitAt units text rest
  pub values_are : values ≡ map unit_value units

-- a backslash that begins no escape, before another byte of the line; or octal digits above 255
abbrev pub IsBadEscape : List ℕ → Type 0
IsBadEscape text =
    ((c : ℕ) × (more : List ℕ) × (text ≡ backslash ∷ c ∷ more) × (c ≢ line_feed) × (is_octal c ≡ false)
    × (escaped_byte c ≡ None))
    ⊎ ((more : List ℕ) × (text ≡ backslash ∷ more) × (255 < octal_value (octal_run more)))

-- the line or the text ends here, perhaps after a backslash (C 6.4.5: a string is on one line)
abbrev pub IsOpenEnd : List ℕ → Type 0
IsOpenEnd [] = Unit {0}
IsOpenEnd (b ∷ []) = (b ≡ line_feed) ⊎ (b ≡ backslash)
IsOpenEnd (b ∷ c ∷ more) = (b ≡ line_feed) ⊎ ((b ≡ backslash) × (c ≡ line_feed))

-- what a string may contain: no NUL, since MO files end their texts with it, and only UTF-8, in each string alone
-- (ours)
pub record IsLawful (bytes : List ℕ) : Type 0 where
  pub no_nul : ¬ (Contains bytes 0)
  pub utf8 : IsUtf8 bytes

-- ---- tokens

-- the keywords, numbers, brackets and strings
pub data Token : Type 0 where
  Context : Token
  Id : Token
  Plural : Token
  Str : Token
  Number : (n : ℕ) → Token
  Open : Token
  Close : Token
  Text : (bytes : List ℕ) → Token

-- a number has one to nine digits, and may begin with zeros (ours)
abbrev pub number_of : List ℕ → Option Token
number_of word =
    if list_all is_ascii_digit word && (nat_le 1 (length word) && nat_le (length word) 9)
    then Some (Number (decimal_value word)) else None

-- the token that a word spells, if it is one
abbrev pub word_token : List ℕ → Option Token
word_token word =
    if bytes_eq word (codes "msgctxt") then Some Context else
    if bytes_eq word (codes "msgid") then Some Id else
    if bytes_eq word (codes "msgid_plural") then Some Plural else
    if bytes_eq word (codes "msgstr") then Some Str else number_of word

-- ---- comments

-- what a comment says about the next entry: a flag, or (ours) that an obsolete line cancels the flags before it
pub data Mark : Type 0 where
  Fuzzy : Mark
  CFormat : Mark
  Flag : (word : List ℕ) → Mark
  Clear : Mark

-- what separates the flags of a line: commas and white space
abbrev pub is_separator : ℕ → Bool
is_separator b = b == comma || is_white b

-- the flags `fuzzy` and `c-format`, or any other word
abbrev pub flag_mark : List ℕ → Mark
flag_mark word =
    if bytes_eq word (codes "fuzzy") then Fuzzy else if bytes_eq word (codes "c-format") then CFormat
    else Flag word

-- the marks of a comment, given what follows its `#`: flags after `#,`, Clear for `#~`, none for other comments
abbrev pub comment_marks : List ℕ → List Mark
comment_marks [] = []
comment_marks (b ∷ more) =
    if b == comma then map flag_mark (slice_split is_separator more) else
    if b == tilde then Clear ∷ [] else []

-- ---- whole texts

-- what a text is split into: tokens, and the white space and comments allowed between any two of them
pub data Piece : Type 0 where
  White : (b : ℕ) → Piece
  Comment : (after : List ℕ) → Piece
  Word : (bytes : List ℕ) (token : Token) → Piece
  OpenBracket : Piece
  CloseBracket : Piece
  Quoted : (bytes : List ℕ) → Piece

-- the text is the piece followed by the rest; a comment extends to the next LF or the end, and a word is as long as
-- possible
abbrev pub PieceAt : Piece → List ℕ → List ℕ → Type 0
PieceAt (White b) text rest = (text ≡ b ∷ rest) × (is_white b ≡ true)
PieceAt (Comment after) text rest =
    (text ≡ number_sign ∷ after ++ rest) × (take_while is_not_line_end (after ++ rest) ≡ after)
PieceAt (Word bytes token) text rest =
    (text ≡ bytes ++ rest) × (take_while is_word_byte text ≡ bytes) × (word_token bytes ≡ Some token)
PieceAt OpenBracket text rest = text ≡ open_bracket ∷ rest
PieceAt CloseBracket text rest = text ≡ close_bracket ∷ rest
PieceAt (Quoted bytes) text rest =
    (inner : List ℕ) × (text ≡ quote ∷ inner) × UnitsAt bytes inner (quote ∷ rest) × IsLawful bytes

-- the token that a piece is, if it is one
abbrev pub piece_token : Piece → Option Token
piece_token (White b) = None
piece_token (Comment after) = None
piece_token (Word bytes token) = Some token
piece_token OpenBracket = Some Open
piece_token CloseBracket = Some Close
piece_token (Quoted bytes) = Some (Text bytes)

-- a token with its line and the marks since the token before it
pub record Lexeme : Type 0 where
  pub marks : List Mark
  pub line : ℕ
  pub token : Token

-- the number of lines that end in the text
abbrev pub newlines : List ℕ → ℕ
newlines text = count_by (λ b. b == line_feed) text

-- the lexemes of the pieces, if the first piece is on this line after these marks; only white space contains LF
abbrev pub lexemes : ℕ → List Mark → List Piece → List Lexeme
lexemes line marks [] = []
lexemes line marks (White b ∷ more) = lexemes (line + newlines (b ∷ [])) marks more
lexemes line marks (Comment after ∷ more) = lexemes line (marks ++ comment_marks after) more
lexemes line marks (Word bytes token ∷ more) =
    record { marks = marks; line = line; token = token } ∷ lexemes line [] more
lexemes line marks (OpenBracket ∷ more) = record { marks = marks; line = line; token = Open } ∷ lexemes line [] more
lexemes line marks (CloseBracket ∷ more) = record { marks = marks; line = line; token = Close } ∷ lexemes line [] more
lexemes line marks (Quoted bytes ∷ more) =
    record { marks = marks; line = line; token = Text bytes } ∷ lexemes line [] more

-- the line after the pieces: 1 plus the number of LF bytes in them
abbrev pub line_of : List Piece → ℕ
line_of [] = 1
line_of (White b ∷ more) = newlines (b ∷ []) + line_of more
line_of (piece ∷ more) = line_of more

-- the text spells these lexemes
pub record Spells (text : List ℕ) (found : List Lexeme) : Type 0 where
  pub pieces : List Piece
  pub each : Chain PieceAt pieces text []
  pub found_are : found ≡ lexemes 1 [] pieces

-- ---- faults

-- the bytes that can begin something: white space, a word, a string, a comment, a bracket
abbrev pub is_start_byte : ℕ → Bool
is_start_byte b =
    (is_white b || is_word_byte b) || ((b == quote || b == number_sign) || (b == open_bracket || b == close_bracket))

-- the rest begins with this fault: a word that is no token, or a byte that can't begin anything; a string with a bad
-- escape; a string that isn't closed on its line; a closed string that isn't lawful
abbrev pub FaultAt : PoKind → List ℕ → Type 0
FaultAt BadWord rest =
    ((b : ℕ) × (more : List ℕ) × (rest ≡ b ∷ more) × (is_word_byte b ≡ true)
    × (word_token (take_while is_word_byte rest) ≡ None))
    ⊎ ((b : ℕ) × (more : List ℕ) × (rest ≡ b ∷ more) × (is_start_byte b ≡ false))
FaultAt BadEscape rest =
    (values inner stop : List ℕ) × (rest ≡ quote ∷ inner) × UnitsAt values inner stop × IsBadEscape stop
FaultAt OpenString rest =
    (values inner stop : List ℕ) × (rest ≡ quote ∷ inner) × UnitsAt values inner stop × IsOpenEnd stop
FaultAt BadText rest =
    (values inner stop : List ℕ) × (rest ≡ quote ∷ inner) × UnitsAt values inner (quote ∷ stop) × ¬ IsLawful values
FaultAt _ rest = ⊥

-- after some pieces the text has this lexical fault, on this line
pub record HasFault (text : List ℕ) (kind : PoKind) (line : ℕ) : Type 0 where
  pub pieces : List Piece
  pub rest : List ℕ
  pub each : Chain PieceAt pieces text rest
  pub fault : FaultAt kind rest
  pub line_is : line ≡ line_of pieces
