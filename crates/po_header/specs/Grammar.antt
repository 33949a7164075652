-- Which tree a list of tokens derives (GNU gettext manual, "Plural forms": C syntax; C standard, 6.5.3 to 6.5.15).
use Rattle.std.specs.Prelude.{◌≡◌, ℕ, ◌<◌, ◌≤◌, List, [], ◌∷◌, ◌++◌}
use Rattle.po_header.specs.declared.token.Operator.{Operator}
use Rattle.po_header.specs.declared.token.Operator.TheVariants.{Or, And, Equal, NotEqual, Less, Greater, AtMost}
use Rattle.po_header.specs.declared.token.Operator.TheVariants.{AtLeast, Add, Subtract, Multiply, Divide, Remainder}
use Rattle.po_header.specs.declared.token.Token.{Token}
use Rattle.po_header.specs.declared.token.Token.TheVariants.{Count, Number, Open, Close, Question, Colon, Bang, Sign}

-- an expression; the variable is n
pub data Tree : Type 0 where
  Variable : Tree
  Constant : (value : ℕ) → Tree
  Negation : (operand : Tree) → Tree
  Binary : (operator : Operator) (left right : Tree) → Tree
  Choice : (condition chosen other : Tree) → Tree

-- the levels of precedence, loosest first: 1 is that of `? :`, and 8 that of `!`, n, numerals and brackets
abbrev pub level : Operator → ℕ
level Or = 2
level And = 3
level Equal = 4
level NotEqual = 4
level Less = 5
level Greater = 5
level AtMost = 5
level AtLeast = 5
level Add = 6
level Subtract = 6
level Multiply = 7
level Divide = 7
level Remainder = 7

-- how an expression is derived
pub data Derivation : Type 0 where
  Name : Derivation
  Numeral : (value : ℕ) → Derivation
  Bracketed : (inner : Derivation) → Derivation
  Negated : (operand : Derivation) → Derivation
  Joined : (operator : Operator) (left right : Derivation) → Derivation
  Chosen : (condition chosen other : Derivation) → Derivation

-- the level of a derivation
abbrev pub level_of : Derivation → ℕ
level_of (Joined operator left right) = level operator
level_of (Chosen condition chosen other) = 1
level_of _ = 8

-- each operand has a level that its position allows: operators group to the left, `? :` to the right, and any
-- expression is allowed in brackets, between `?` and `:`, and after `:`
abbrev pub IsGrouped : Derivation → Type 0
IsGrouped Name = Unit {0}
IsGrouped (Numeral value) = Unit {0}
IsGrouped (Bracketed inner) = IsGrouped inner
IsGrouped (Negated operand) = IsGrouped operand × (8 ≤ level_of operand)
IsGrouped (Joined operator left right) =
    IsGrouped left × IsGrouped right × (level operator ≤ level_of left) × (level operator < level_of right)
IsGrouped (Chosen condition chosen other) =
    IsGrouped condition × IsGrouped chosen × IsGrouped other × (2 ≤ level_of condition)

abbrev pub tokens_of : Derivation → List Token
tokens_of Name = Count ∷ []
tokens_of (Numeral value) = Number value ∷ []
tokens_of (Bracketed inner) = Open ∷ tokens_of inner ++ (Close ∷ [])
tokens_of (Negated operand) = Bang ∷ tokens_of operand
tokens_of (Joined operator left right) = tokens_of left ++ (Sign operator ∷ tokens_of right)
tokens_of (Chosen condition chosen other) =
    tokens_of condition ++ (Question ∷ tokens_of chosen ++ (Colon ∷ tokens_of other))

-- the tree of a derivation, which has no brackets
abbrev pub derived_tree : Derivation → Tree
derived_tree Name = Variable
derived_tree (Numeral value) = Constant value
derived_tree (Bracketed inner) = derived_tree inner
derived_tree (Negated operand) = Negation (derived_tree operand)
derived_tree (Joined operator left right) = Binary operator (derived_tree left) (derived_tree right)
derived_tree (Chosen condition chosen other) =
    Choice (derived_tree condition) (derived_tree chosen) (derived_tree other)

-- the tokens derive the tree
pub record Derives (tokens : List Token) (tree : Tree) : Type 0 where
  pub derivation : Derivation
  pub grouped : IsGrouped derivation
  pub tokens_are : tokens ≡ tokens_of derivation
  pub tree_is : tree ≡ derived_tree derivation
