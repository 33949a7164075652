-- Private: what the parser has taken from a text.
use Rattle.std.specs.Prelude.{◌≡◌, ℕ, ◌+◌, ◌<◌, ◌^◌, Bool, true, false, List, []}
use Rattle.std.specs.Prelude.{◌∷◌, ◌++◌, map, length, Option, Some, None, ◌⊎◌, IsTrue}
use Rattle.po_text.specs.declared.parser.Parser.{Parser}
use Rattle.po_text.specs.declared.stages.Stage as code
use Rattle.po_text.specs.declared.stages.Stage.TheVariants as stages
use Rattle.po_text.specs.declared.lexer.Token as code_token
use Rattle.po_text.specs.declared.lexer.Token.TheVariants as kinds
use Rattle.po_text.specs.declared.fault.PoKind.TheVariants.{BadText, BadIndex, BadOrder}
use Rattle.po_text.specs.declared.fault.PoFault.{PoFault}
use Rattle.po_text.specs.Spelling.{Lexeme, Token, Text, Number}
use Rattle.po_text.specs.Entries.{Entry}
use Rattle.po_text.specs.Stages.{stage_view, Stage, Start, ContextWord, ContextText}
use Rattle.po_text.specs.Stages.{IdWord, IdText, IndexNumber, IsBoundary, step}
use Rattle.po_text.specs.Building.{Draft, draft_of, begin, State, at_state, drafts_at, feed_at, feeds, start, some_if}
use Rattle.po_text.specs.Lexing.{TakesLexemes}
use Rattle.po_text.specs.Outcome.{Reads}
use Rattle.po_text.specs.Lawful.{HasItsForms}
use Rattle.po_text.specs.Buffers.{HasForm}

abbrev pub is_context : code_token.Token → Bool
is_context kinds.Context = true
is_context _ = false

-- what `opens` says of this token, if it opens an entry or if it doesn't
abbrev pub context_opened : Bool → code_token.Token → Option (Option (List ℕ))
context_opened true t = Some (some_if (is_context t) [])
context_opened false t = None

abbrev pub is_context_word : code.Stage → Bool
is_context_word stages.ContextWord = true
is_context_word _ = false

-- the parser's own state, if this draft is under way
abbrev pub state_with : Parser → Draft → List Draft → State
state_with r d done = at_state (stage_view r.stage r.count) done d r.lexer.flags r.keyword_line

-- the entry whose opening keyword was read, as it begins
abbrev pub pending_draft : Parser → Draft
pending_draft r = begin r.line r.entry_flags (some_if (is_context_word r.stage) [])

abbrev pub StartTest : Bool → Stage → Type 0
StartTest true p = p ≡ Start
StartTest false p = (done : List Draft) (d : Draft) → drafts_at p done d ≡ done ++ (d ∷ [])

-- there are no lexemes, or the last one is on this line
abbrev pub EndsOn : List Lexeme → ℕ → Type 0
EndsOn found line =
    (found ≡ []) ⊎ ((before : List Lexeme) × (x : Lexeme) × (found ≡ before ++ (x ∷ [])) × (x.line ≡ line))

-- the lexemes of the text up to this offset were taken, and lead to this state
pub record HasTaken (text : List ℕ) (line : ℕ) (rest : List ℕ) (s : State) : Type 0 where
  pub found : List Lexeme
  pub takes : TakesLexemes found 1 text line rest
  pub last : EndsOn found line
  pub fed : feeds (Some start) found ≡ Some s

-- the parser has taken the lexemes up to its stage; this draft is under way, after those that are done
abbrev pub HasTakenTo : List ℕ → List Draft → Draft → Parser → Type 0
HasTakenTo text done d r = HasTaken text r.lexer.line r.lexer.rest.now (state_with r d done)

-- the parser has read these entries of the text
pub record HasParsed (text : List ℕ) (entries : List Entry) (r : Parser) : Type 0 where
  pub under_way : r.finished ≡ false → HasTakenTo text (map draft_of entries) (pending_draft r) r
  pub at_end : r.finished ≡ true → Reads text entries

abbrev pub is_opening : code.Stage → Bool
is_opening stages.Start = true
is_opening stages.ContextWord = true
is_opening stages.IdWord = true
is_opening _ = false

-- the next entry can be read: lines and counts can't overflow, and at most its opening keyword was read
pub record IsReady (r : Parser) : Type 0 where
  pub lines : r.lexer.line + length r.lexer.rest.now < 2 ^ 32
  pub counts : r.count + length r.lexer.rest.now < 2 ^ 32
  pub opening : r.finished ≡ false → is_opening r.stage ≡ true

-- 1 until the text has ended, so that `left_in` falls with each entry
abbrev pub one_unless : Bool → ℕ
one_unless true = 0
one_unless false = 1

abbrev pub left_in : Parser → ℕ
left_in r = length r.lexer.rest.now + one_unless r.finished

-- the next entry was read, or there are no more
abbrev pub ParsesOn : Bool → List ℕ → List Entry → Entry → Parser → Type 0
ParsesOn true text entries e r = HasItsForms e × HasParsed text (entries ++ (e ∷ [])) r
ParsesOn false text entries e r = Reads text entries × HasParsed text entries r

-- a token was taken that leads to this stage; true if it opens the next entry
abbrev pub TakesToken : Bool → List Draft → Token → ℕ → Parser → Entry → Parser → Entry → Type 0
TakesToken true done t line old old_entry new entry =
    IsBoundary (stage_view old.stage old.count) × (drafts_at (stage_view old.stage old.count) done (draft_of old_entry)
    ≡ done ++ (draft_of old_entry ∷ []))
    × (entry ≡ old_entry)
    × (feed_at (state_with old (draft_of old_entry) done) [] line t
    ≡ Some (state_with new (pending_draft new) (done ++ (draft_of old_entry ∷ []))))
TakesToken false done t line old old_entry new entry =
    feed_at (state_with old (draft_of old_entry) done) [] line t ≡ Some (state_with new (draft_of entry) done)

-- a form was begun, if the stage after the token is in one, unless the token opened an entry
abbrev pub KeepsForm : Bool → Parser → Entry → Type 0
KeepsForm true new entry = IsTrue (is_opening new.stage)
KeepsForm false new entry = HasForm (stage_view new.stage new.count) (draft_of entry)

-- the text may end here: true after an entry, false before any
abbrev pub EndsRight : Bool → Parser → Type 0
EndsRight true r =
    IsBoundary (stage_view r.stage r.count)
    × ((done : List Draft) (d : Draft) → drafts_at (stage_view r.stage r.count) done d ≡ done ++ (d ∷ []))
EndsRight false r = stage_view r.stage r.count ≡ Start

-- the fault of a string that isn't allowed here: byte 4 in a context or msgid, or else where it stands
abbrev pub key_refusal : Stage → ℕ → ℕ → PoFault
key_refusal ContextWord line k = record { kind = BadText; line = k }
key_refusal ContextText line k = record { kind = BadText; line = k }
key_refusal IdWord line k = record { kind = BadText; line = k }
key_refusal IdText line k = record { kind = BadText; line = k }
key_refusal _ line k = record { kind = BadOrder; line = line }

abbrev pub number_refusal : Stage → ℕ → PoFault
number_refusal (IndexNumber k) line = record { kind = BadIndex; line = line }
number_refusal _ line = record { kind = BadOrder; line = line }

abbrev pub refusal : Token → Stage → ℕ → ℕ → PoFault
refusal (Text bytes) p line k = key_refusal p line k
refusal (Number n) p line k = number_refusal p line
refusal _ p line k = record { kind = BadOrder; line = line }

-- the last token taken isn't allowed at the stage where it was read
pub record Refused (text : List ℕ) (line : ℕ) (rest : List ℕ) (p : Stage) (k : ℕ) (t : Token) : Type 0 where
  pub found : List Lexeme
  pub x : Lexeme
  pub s : State
  pub takes : TakesLexemes (found ++ (x ∷ [])) 1 text line rest
  pub fed : feeds (Some start) found ≡ Some s
  pub stage : s.stage ≡ p
  pub keyword : s.keyword ≡ k
  pub token : x.token ≡ t
  pub line_is : x.line ≡ line
  pub refused : step p t ≡ None
