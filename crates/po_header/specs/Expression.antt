-- Which tree a text is read as (GNU gettext manual, "Plural forms").
use Rattle.std.specs.Prelude.{ℕ, ◌<◌, Bool, not, ◌||◌, ◌==◌, List, length}
use Rattle.std.specs.List.{take_while}
use Rattle.po_header.specs.declared.token.Token.{Token}
use Rattle.po_header.specs.Tokens.{Spells}
use Rattle.po_header.specs.Grammar.{Tree, Derives}

-- neither `;` nor LF, either of which ends an expression (GNU gettext manual, "Plural forms")
abbrev pub is_inside : ℕ → Bool
is_inside b = not (b == 59 || b == 10)

-- the expression at the front of the text
abbrev pub expression : List ℕ → List ℕ
expression text = take_while is_inside text

-- the expression has more than 1,000 bytes (a limit of our own)
abbrev pub IsTooLong : List ℕ → Type 0
IsTooLong text = 1000 < length (expression text)

-- the text's tokens derive the tree
pub record SpellsTree (text : List ℕ) (tree : Tree) : Type 0 where
  pub tokens : List Token
  pub spells : Spells text tokens
  pub derives : Derives tokens tree

-- the expression at the front of the text derives the tree
abbrev pub IsReadAs : List ℕ → Tree → Type 0
IsReadAs text tree = SpellsTree (expression text) tree

-- the expression at the front of the text derives no tree
abbrev pub IsMalformed : List ℕ → Type 0
IsMalformed text = (tree : Tree) → ¬ IsReadAs text tree
