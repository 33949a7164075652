-- Which tokens an expression spells (C standard, 6.4 "Lexical elements": each token is as long as it can be).
use Rattle.std.specs.Prelude.{◌≡◌, ◌≢◌, ℕ, ◌<◌, ◌^◌, Bool, true, ◌||◌}
use Rattle.std.specs.Prelude.{◌==◌, nat_lt, if◌then◌else◌, List, [], ◌∷◌, ◌++◌, drop, Option, None, Some, codes}
use Rattle.std.specs.List.{take_while, filter_map, prefix_len}
use Rattle.std.specs.Char.{is_ascii_digit}
use Rattle.std.specs.Str.{bytes_eq}
use Rattle.po_header.specs.declared.token.Operator.TheVariants.{Or, And, Equal, NotEqual, Less, Greater, AtMost}
use Rattle.po_header.specs.declared.token.Operator.TheVariants.{AtLeast, Add, Subtract, Multiply, Divide, Remainder}
use Rattle.po_header.specs.declared.token.Token.{Token}
use Rattle.po_header.specs.declared.token.Token.TheVariants.{Count, Number, Open, Close, Question, Colon, Bang, Sign}
use Rattle.byte_text.specs.Chain.{Chain}
use Rattle.byte_text.specs.Decimal.{decimal_value}

-- space and tab, which separate tokens and are skipped
abbrev pub is_blank : ℕ → Bool
is_blank b = b == 32 || b == 9

-- the text without its leading blanks
abbrev pub behind_blanks : List ℕ → List ℕ
behind_blanks text = drop (prefix_len is_blank text) text

-- the two-byte symbols, one row each (C standard, 6.4.6 "Punctuators")
abbrev pub long_symbol : List ℕ → Option Token
long_symbol symbol =
    if bytes_eq symbol (codes "||") then Some (Sign Or) else
    if bytes_eq symbol (codes "&&") then Some (Sign And) else
    if bytes_eq symbol (codes "==") then Some (Sign Equal) else
    if bytes_eq symbol (codes "!=") then Some (Sign NotEqual) else
    if bytes_eq symbol (codes "<=") then Some (Sign AtMost) else
    if bytes_eq symbol (codes ">=") then Some (Sign AtLeast) else None

-- the one-byte symbols; `n` is the variable
abbrev pub short_symbol : List ℕ → Option Token
short_symbol symbol =
    if bytes_eq symbol (codes "n") then Some Count else
    if bytes_eq symbol (codes "(") then Some Open else
    if bytes_eq symbol (codes ")") then Some Close else
    if bytes_eq symbol (codes "?") then Some Question else
    if bytes_eq symbol (codes ":") then Some Colon else
    if bytes_eq symbol (codes "!") then Some Bang else
    if bytes_eq symbol (codes "<") then Some (Sign Less) else
    if bytes_eq symbol (codes ">") then Some (Sign Greater) else
    if bytes_eq symbol (codes "+") then Some (Sign Add) else
    if bytes_eq symbol (codes "-") then Some (Sign Subtract) else
    if bytes_eq symbol (codes "*") then Some (Sign Multiply) else
    if bytes_eq symbol (codes "/") then Some (Sign Divide) else
    if bytes_eq symbol (codes "%") then Some (Sign Remainder) else None

-- the two-byte symbol at the front, if there is one
abbrev pub long_at : List ℕ → Option Token
long_at [] = None
long_at (a ∷ []) = None
long_at (a ∷ b ∷ more) = long_symbol (a ∷ b ∷ [])

-- the number, if it is below 2 ^ 64 (an unsigned long of 64 bits)
abbrev pub below_limit : ℕ → Option ℕ
below_limit n = if nat_lt n (2 ^ 64) then Some n else None

-- what an expression is split into
pub data Piece : Type 0 where
  Blank : (byte : ℕ) → Piece
  Digits : (digits : List ℕ) → Piece
  Short : (byte : ℕ) (token : Token) → Piece
  Long : (first second : ℕ) (token : Token) → Piece

-- the text is the piece, as long as possible, followed by the rest: a numeral takes all digits at the front and is
-- below 2 ^ 64, and a one-byte symbol needs that no two-byte symbol is there
abbrev pub PieceAt : Piece → List ℕ → List ℕ → Type 0
PieceAt (Blank b) text rest = (text ≡ b ∷ rest) × (is_blank b ≡ true)
PieceAt (Digits digits) text rest =
    (text ≡ digits ++ rest) × (take_while is_ascii_digit text ≡ digits) × (digits ≢ [])
    × (decimal_value digits < 2 ^ 64)
PieceAt (Short b token) text rest = (text ≡ b ∷ rest) × (long_at text ≡ None) × (short_symbol (b ∷ []) ≡ Some token)
PieceAt (Long a b token) text rest = (text ≡ a ∷ b ∷ rest) × (long_symbol (a ∷ b ∷ []) ≡ Some token)

-- the token of a piece, if it is one
abbrev pub piece_token : Piece → Option Token
piece_token (Blank b) = None
piece_token (Digits digits) = Some (Number (decimal_value digits))
piece_token (Short b token) = Some token
piece_token (Long a b token) = Some token

abbrev pub tokens_of_pieces : List Piece → List Token
tokens_of_pieces pieces = filter_map piece_token pieces

-- the text begins with these tokens, perhaps with blanks around them, followed by the rest
pub record Begins (tokens : List Token) (text rest : List ℕ) : Type 0 where
  pub pieces : List Piece
  pub each : Chain PieceAt pieces text rest
  pub tokens_are : tokens ≡ tokens_of_pieces pieces

-- the text is these tokens, perhaps with blanks around them
abbrev pub Spells : List ℕ → List Token → Type 0
Spells text tokens = Begins tokens text []
