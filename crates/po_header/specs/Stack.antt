-- Private: the steps of the parser, token by token.
use Rattle.std.specs.Prelude.{ℕ, Bool, true, false, List, [], ◌∷◌, nat_le, if◌then◌else◌, Option, None, Some}
use Rattle.po_header.specs.declared.token.Operator.{Operator}
use Rattle.po_header.specs.declared.token.Token.{Token}
use Rattle.po_header.specs.declared.token.Token.TheVariants.{Count, Number, Open, Close, Question, Colon, Bang, Sign}
use Rattle.po_header.specs.Grammar.{Tree, Variable, Constant, Negation, Binary, Choice, level}

-- what waits on the stack for its operand
pub data Waiting : Type 0 where
  BracketWaits : Waiting
  BangWaits : Waiting
  LeftWaits : (operator : Operator) (left : Tree) → Waiting
  ConditionWaits : (condition : Tree) → Waiting
  BranchWaits : (condition chosen : Tree) → Waiting

-- what waits, the newest first, and the operand that was just read
pub record State : Type 0 where
  pub waiting : List Waiting
  pub operand : Option Tree

-- an operand is expected
abbrev pub without_operand : List Waiting → Option State
without_operand ws = Some (record { waiting = ws; operand = None })

-- an operand was read
abbrev pub with_operand : List Waiting × Tree → Option State
with_operand p = Some (record { waiting = p.0; operand = Some p.1 })

-- whether it takes an operand that is followed by an operator of this level
abbrev pub joins_on : ℕ → Waiting → Bool
joins_on k (LeftWaits op left) = nat_le k (level op)
joins_on k (BranchWaits c a) = nat_le k 1
joins_on k w = false

-- what it and its operand become
abbrev pub join_tree : Waiting → Tree → Tree
join_tree (LeftWaits op left) t = Binary op left t
join_tree (BranchWaits c a) t = Choice c a t
join_tree w t = t

-- the operand, joined with what waits for it at this level or a tighter one
abbrev pub joined_operand : ℕ → List Waiting → Tree → List Waiting × Tree
joined_operand k [] t = ([], t)
joined_operand k (w ∷ ws) t = if joins_on k w then joined_operand k ws (join_tree w t) else (w ∷ ws, t)

abbrev pub is_bang_waits : Waiting → Bool
is_bang_waits BangWaits = true
is_bang_waits w = false

-- the operand, negated once for each `!` before it
abbrev pub negated_operand : List Waiting → Tree → List Waiting × Tree
negated_operand [] t = ([], t)
negated_operand (w ∷ ws) t = if is_bang_waits w then negated_operand ws (Negation t) else (w ∷ ws, t)

abbrev pub colon : List Waiting × Tree → Option State
colon (ConditionWaits c ∷ ws, t) = without_operand (BranchWaits c t ∷ ws)
colon (ws, t) = None

abbrev pub close : List Waiting × Tree → Option State
close (BracketWaits ∷ ws, t) = with_operand (negated_operand ws t)
close (ws, t) = None

-- a token where an operand is expected
abbrev pub begin : List Waiting → Token → Option State
begin ws Count = with_operand (negated_operand ws Variable)
begin ws (Number v) = with_operand (negated_operand ws (Constant v))
begin ws Open = without_operand (BracketWaits ∷ ws)
begin ws Bang = without_operand (BangWaits ∷ ws)
begin ws _ = None

abbrev pub left_waits : Operator → List Waiting × Tree → Option State
left_waits op p = without_operand (LeftWaits op p.1 ∷ p.0)

abbrev pub condition_waits : List Waiting × Tree → Option State
condition_waits p = without_operand (ConditionWaits p.1 ∷ p.0)

-- a token after an operand
abbrev pub go_on : List Waiting → Tree → Token → Option State
go_on ws t (Sign op) = left_waits op (joined_operand (level op) ws t)
go_on ws t Question = condition_waits (joined_operand 2 ws t)
go_on ws t Colon = colon (joined_operand 1 ws t)
go_on ws t Close = close (joined_operand 1 ws t)
go_on ws t _ = None

abbrev pub step_at : List Waiting → Option Tree → Token → Option State
step_at ws None token = begin ws token
step_at ws (Some t) token = go_on ws t token

abbrev pub step : Option State → Token → Option State
step None token = None
step (Some s) token = step_at s.waiting s.operand token

abbrev pub steps : Option State → List Token → Option State
steps s [] = s
steps s (token ∷ more) = steps (step s token) more

abbrev pub start : Option State
start = without_operand []

abbrev pub tree_at_end : List Waiting × Tree → Option Tree
tree_at_end ([], t) = Some t
tree_at_end (w ∷ ws, t) = None

abbrev pub finish_at : List Waiting → Option Tree → Option Tree
finish_at ws None = None
finish_at ws (Some t) = tree_at_end (joined_operand 1 ws t)

-- the tree of all tokens, if they form one
abbrev pub finish : Option State → Option Tree
finish None = None
finish (Some s) = finish_at s.waiting s.operand
