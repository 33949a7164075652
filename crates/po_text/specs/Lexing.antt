-- Private: what the lexer takes from a text.
use Rattle.std.specs.Prelude.{◌≡◌, ◌≢◌, ℕ, ◌<◌, ◌≤◌, Bool, false, not, List, [], ◌∷◌, ◌++◌, length, Option, Some, ◌+◌}
use Rattle.std.specs.Prelude.{IsTrue, ◌&&◌, nat_le, nat_lt}
use Rattle.po_text.specs.declared.fault.PoKind.{PoKind}
use Rattle.po_text.specs.declared.fault.PoKind.TheVariants.{BadEscape, OpenString, Memory}
use Rattle.std.specs.Option.{option_map}
use Rattle.std.specs.List.{AllByRecursion}
use Rattle.po_text.specs.declared.flags.Flags.{Flags}
use Rattle.po_text.specs.declared.strings.StringBytes.{StringBytes}
use Rattle.po_text.specs.declared.lexer.Token as code
use Rattle.po_text.specs.declared.lexer.Token.TheVariants as kinds
use Rattle.byte_text.specs.Chain.{Chain}
use Rattle.po_text.specs.Building.{flags_over}
use Rattle.po_text.specs.Clean.{bytes_of}
use Rattle.po_text.specs.Spelling.{Token, Context, Id, Plural, Str, Number, Open, Close}
use Rattle.po_text.specs.Spelling.{Text, Piece, White, Comment, PieceAt, piece_token, FaultAt, Lexeme}
use Rattle.po_text.specs.Spelling.{lexemes, is_white, line_of, comment_marks, is_separator, Mark, StringUnit, UnitAt}
use Rattle.po_text.specs.Spelling.{UnitsAt, unit_value, IsBadEscape, IsOpenEnd, IsLawful}

abbrev pub is_no_separator : ℕ → Bool
is_no_separator b = not (is_separator b)

-- ASCII, but not NUL
abbrev pub is_simple : ℕ → Bool
is_simple b = nat_le 1 b && nat_lt b 128

-- text is a unit with this value, followed by rest
abbrev pub ReadsUnit : List ℕ → ℕ → List ℕ → Type 0
ReadsUnit text value rest = (u : StringUnit) × UnitAt u text rest × (unit_value u ≡ value)

-- no unit is at the front, and the fault is this one
abbrev pub StopsBadly : PoKind → List ℕ → Type 0
StopsBadly BadEscape text = IsBadEscape text
StopsBadly OpenString text = IsOpenEnd text
StopsBadly Memory text = Unit {0}
StopsBadly _ text = ⊥

-- units, followed by a fault in place of the next unit
abbrev pub UnitsFail : PoKind → List ℕ → Type 0
UnitsFail kind text = (values stop : List ℕ) × UnitsAt values text stop × StopsBadly kind stop

-- text is units followed by rest, and new is old with their values appended
pub record TakesUnits (old new text rest : List ℕ) : Type 0 where
  pub values : List ℕ
  pub units : UnitsAt values text rest
  pub grown : new ≡ old ++ values

-- the bytes of the last string read
abbrev pub string_of : StringBytes → List ℕ
string_of s = bytes_of s.plain s.decoded.items

-- clean bytes are lawful
abbrev pub HoldsLawful : StringBytes → Type 0
HoldsLawful s = IsTrue s.is_clean → IsLawful (string_of s)

-- the specification's token for the code's token; text is the bytes of a string
abbrev pub token_view : code.Token → List ℕ → Token
token_view kinds.Context text = Context
token_view kinds.Id text = Id
token_view kinds.Plural text = Plural
token_view kinds.Str text = Str
token_view (kinds.Number n) text = Number n
token_view kinds.Open text = Open
token_view kinds.Close text = Close
token_view kinds.Text text = Text text

-- the bytes of a string are lawful
abbrev pub IsLawfulToken : Token → Type 0
IsLawfulToken (Text bytes) = IsLawful bytes
IsLawfulToken _ = Unit {0}

abbrev pub word_view : Option code.Token → List ℕ → Option Token
word_view found text = option_map (λ t. token_view t text) found

-- white space and comments
abbrev pub IsGapPiece : Piece → Type 0
IsGapPiece (White b) = Unit {0}
IsGapPiece (Comment after) = Unit {0}
IsGapPiece _ = ⊥

-- neither white space nor a comment is at the front
abbrev pub StopsGap : List ℕ → Type 0
StopsGap [] = Unit {0}
StopsGap (b ∷ more) = (is_white b ≡ false) × (b ≢ 35)

-- the marks of the comments in a gap
abbrev pub gap_marks : List Piece → List Mark
gap_marks [] = []
gap_marks (Comment after ∷ more) = comment_marks after ++ gap_marks more
gap_marks (_ ∷ more) = gap_marks more

-- a gap leads from one line and rest to another, and changes the flags
pub record TakesGap (old_flags : Flags) (old_line : ℕ) (old_rest : List ℕ) (new_flags : Flags) (new_line : ℕ)
    (new_rest : List ℕ) : Type 0 where
  pub pieces : List Piece
  pub flags : new_flags ≡ flags_over old_flags (gap_marks pieces)
  pub each : Chain PieceAt pieces old_rest new_rest
  pub gap : AllByRecursion IsGapPiece pieces
  pub line : new_line + 1 ≡ old_line + line_of pieces
  pub room : new_line + length new_rest ≤ old_line + length old_rest
  pub falls : length new_rest ≤ length old_rest

-- text is one token followed by rest; bytes is its string
abbrev pub TakesToken : code.Token → List ℕ → List ℕ → List ℕ → Type 0
TakesToken token bytes text rest = (p : Piece) × PieceAt p text rest × (piece_token p ≡ Some (token_view token bytes))

-- after a gap the text ends
abbrev pub HasEnd : Flags → ℕ → List ℕ → Type 0
HasEnd flags line rest = (new_flags : Flags) × (last : ℕ) × TakesGap flags line rest new_flags last []

-- after a gap there is a token, on the new line
pub record HasNext (token : code.Token) (bytes : List ℕ) (old_flags : Flags) (old_line : ℕ) (old_rest : List ℕ)
    (new_flags : Flags) (new_line : ℕ) (new_rest : List ℕ) : Type 0 where
  pub middle : List ℕ
  pub gap : TakesGap old_flags old_line old_rest new_flags new_line middle
  pub takes : TakesToken token bytes middle new_rest
  pub shorter : length new_rest < length middle

-- after a gap there is a lexical fault
pub record HasFaultFrom (flags : Flags) (old_line : ℕ) (old_rest : List ℕ) (kind : PoKind) (line : ℕ) : Type 0 where
  pub middle : List ℕ
  pub new_flags : Flags
  pub gap : TakesGap flags old_line old_rest new_flags line middle
  pub fault : FaultAt kind middle

-- these lexemes lead from one line and rest to another, and the last one ends there
pub record TakesLexemes (found : List Lexeme) (old_line : ℕ) (old_rest : List ℕ) (new_line : ℕ) (new_rest : List ℕ) :
    Type 0 where
  pub pieces : List Piece
  pub each : Chain PieceAt pieces old_rest new_rest
  pub line : new_line + 1 ≡ old_line + line_of pieces
  pub found_are : (more : List Piece) → lexemes old_line [] (pieces ++ more) ≡ found ++ lexemes new_line [] more
  pub room : new_line + length new_rest ≤ old_line + length old_rest
