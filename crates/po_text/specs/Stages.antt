-- Private: the stages in the grammar of entries, and where each token leads.
use Rattle.std.specs.Prelude.{ℕ, ◌+◌, Bool, List, Option, Some, None, ◌==◌, nat_eq, if◌then◌else◌}
use Rattle.std.specs.List.{list_any}
use Rattle.po_text.specs.declared.stages.Stage as code
use Rattle.po_text.specs.declared.stages.Stage.TheVariants as stages
use Rattle.po_text.specs.declared.lexer.Token as code_token
use Rattle.po_text.specs.declared.lexer.Token.TheVariants as kinds
use Rattle.po_text.specs.Spelling.{Token, Context, Id, Plural, Str, Number, Open, Close, Text}

pub data Stage : Type 0 where
  Start : Stage
  ContextWord : Stage
  ContextText : Stage
  IdWord : Stage
  IdText : Stage
  FormWord : Stage
  FormText : Stage
  PluralWord : Stage
  PluralText : Stage
  IndexOpen : (k : ℕ) → Stage
  IndexNumber : (k : ℕ) → Stage
  IndexClose : (k : ℕ) → Stage
  IndexedWord : (k : ℕ) → Stage
  IndexedText : (k : ℕ) → Stage

-- stages where an entry may begin
abbrev pub IsBoundary : Stage → Type 0
IsBoundary Start = Unit {0}
IsBoundary FormText = Unit {0}
IsBoundary (IndexedText k) = Unit {0}
IsBoundary _ = ⊥

abbrev pub has_four : List ℕ → Bool
has_four bytes = list_any (nat_eq 4) bytes

-- the stage after a token that opens an entry
abbrev pub opened_stage : Token → Option Stage
opened_stage Context = Some ContextWord
opened_stage Id = Some IdWord
opened_stage t = None

abbrev pub key_text : List ℕ → Stage → Option Stage
key_text bytes p = if has_four bytes then None else Some p

unfoldable pub step : Stage → Token → Option Stage
step Start t = opened_stage t
step ContextWord (Text bytes) = key_text bytes ContextText
step ContextWord t = None
step ContextText (Text bytes) = key_text bytes ContextText
step ContextText Id = Some IdWord
step ContextText t = None
step IdWord (Text bytes) = key_text bytes IdText
step IdWord t = None
step IdText (Text bytes) = key_text bytes IdText
step IdText Str = Some FormWord
step IdText Plural = Some PluralWord
step IdText t = None
step FormWord (Text bytes) = Some FormText
step FormWord t = None
step FormText (Text bytes) = Some FormText
step FormText t = opened_stage t
step PluralWord (Text bytes) = Some PluralText
step PluralWord t = None
step PluralText (Text bytes) = Some PluralText
step PluralText Str = Some (IndexOpen 0)
step PluralText t = None
step (IndexOpen k) Open = Some (IndexNumber k)
step (IndexOpen k) t = None
step (IndexNumber k) (Number n) = if n == k then Some (IndexClose k) else None
step (IndexNumber k) t = None
step (IndexClose k) Close = Some (IndexedWord k)
step (IndexClose k) t = None
step (IndexedWord k) (Text bytes) = Some (IndexedText k)
step (IndexedWord k) t = None
step (IndexedText k) (Text bytes) = Some (IndexedText k)
step (IndexedText k) Str = Some (IndexOpen (k + 1))
step (IndexedText k) t = opened_stage t

-- the specification's stage for the code's stage, if k forms of the entry are complete
abbrev pub stage_view : code.Stage → ℕ → Stage
stage_view stages.Start k = Start
stage_view stages.ContextWord k = ContextWord
stage_view stages.ContextText k = ContextText
stage_view stages.IdWord k = IdWord
stage_view stages.IdText k = IdText
stage_view stages.FormWord k = FormWord
stage_view stages.FormText k = FormText
stage_view stages.PluralWord k = PluralWord
stage_view stages.PluralText k = PluralText
stage_view stages.IndexOpen k = IndexOpen k
stage_view stages.IndexNumber k = IndexNumber k
stage_view stages.IndexClose k = IndexClose k
stage_view stages.IndexedWord k = IndexedWord k
stage_view stages.IndexedText k = IndexedText k

-- the number of complete forms after this token at this stage, if there were k before it
abbrev pub next_count : code.Stage → code_token.Token → ℕ → ℕ
next_count stages.PluralText t k = 0
next_count stages.IndexedText kinds.Str k = k + 1
next_count _ _ k = k
