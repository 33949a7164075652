-- The plural rule in a header's text (GNU gettext manual, "Plural forms").
use Rattle.std.specs.Prelude.{◌≡◌, ◌⊎◌, ℕ, ◌==◌, nat_lt, if◌then◌else◌, List, [], ◌∷◌, Option, None, Some, codes}
use Rattle.std.specs.List.{take_while}
use Rattle.std.specs.Char.{is_ascii_digit}
use Rattle.po_header.specs.Tokens.{behind_blanks, below_limit}
use Rattle.byte_text.specs.Decimal.{decimal_value}
use Rattle.po_header.specs.Grammar.{Tree}
use Rattle.po_header.specs.TreeValue.{value}
use Rattle.po_header.specs.Expression.{IsTooLong, IsReadAs, IsMalformed}
use Rattle.message.specs.Charset.{Follows, LacksWord}

-- the number of forms, and the expression that selects one by n; or no rule, or one that can't be read
pub data Rule : Type 0 where
  Given : (nplurals : ℕ) (tree : Tree) → Rule
  Absent : Rule
  Broken : Rule

-- the number that the digits spell, if there are any and it is below 2 ^ 64
abbrev pub number_of_digits : List ℕ → Option ℕ
number_of_digits [] = None
number_of_digits (d ∷ digits) = below_limit (decimal_value (d ∷ digits))

-- the number at the front, after blanks: one or more digits, below 2 ^ 64; what follows them is ignored
abbrev pub leading_number : List ℕ → Option ℕ
leading_number text = number_of_digits (take_while is_ascii_digit (behind_blanks text))

-- what follows the first `nplurals=`, and what follows the first `plural=`
pub record HasBoth (text count expr : List ℕ) : Type 0 where
  pub count_is : Follows (codes "nplurals=") text count
  pub expr_is : Follows (codes "plural=") text expr

pub record IsGiven (text : List ℕ) (nplurals : ℕ) (tree : Tree) : Type 0 where
  pub count : List ℕ
  pub expr : List ℕ
  pub both : HasBoth text count expr
  pub number : leading_number count ≡ Some nplurals
  pub short : ¬ IsTooLong expr
  pub read : IsReadAs expr tree

-- both occur, and at least one can't be read
pub record IsBroken (text : List ℕ) : Type 0 where
  pub count : List ℕ
  pub expr : List ℕ
  pub both : HasBoth text count expr
  pub fails : (leading_number count ≡ None) ⊎ (IsTooLong expr ⊎ IsMalformed expr)

-- the plural rule of a header's text
abbrev pub HasRule : List ℕ → Rule → Type 0
HasRule text (Given nplurals tree) = IsGiven text nplurals tree
HasRule text Absent = LacksWord (codes "nplurals=") text ⊎ LacksWord (codes "plural=") text
HasRule text Broken = IsBroken text

-- the plural rule in the header's text, if there is a header
abbrev pub HasRuleIn : Option (List ℕ) → Rule → Type 0
HasRuleIn None rule = rule ≡ Absent
HasRuleIn (Some text) rule = HasRule text rule

-- the value, if it is the index of a form; else the first form (our choice)
abbrev pub form_of : ℕ → Option ℕ → ℕ
form_of nplurals None = 0
form_of nplurals (Some form) = if nat_lt form nplurals then form else 0

-- the rule of Germanic languages, for messages without a rule (GNU gettext manual, "Plural forms")
abbrev pub germanic : ℕ → ℕ
germanic n = if n == 1 then 0 else 1

-- the index of the form that n takes
abbrev pub form_index : Rule → ℕ → ℕ
form_index (Given nplurals tree) n = form_of nplurals (value tree n)
form_index Absent n = germanic n
form_index Broken n = germanic n
