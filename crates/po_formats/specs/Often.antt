-- Which forms serve five numbers or more, so that GNU msgfmt compares them strictly (GNU gettext manual, "Plural
-- forms").
use Rattle.std.specs.Prelude.{ℕ, zero, suc, ◌+◌, ◌==◌, nat_le, Bool, false, if◌then◌else◌, List, [], ◌∷◌, ◌++◌}
use Rattle.std.specs.Option.{option_map_or}
use Rattle.po_header.specs.Grammar.{Tree}
use Rattle.po_header.specs.TreeValue.{value}
pub use Rattle.po_header.specs.Rule.{Rule, Given}

-- the expression gives n this form
abbrev pub serves : Tree → ℕ → ℕ → Bool
serves tree form n = option_map_or (λ index. index == form) (value tree n) false

-- how many of the numbers below `end` the expression gives this form
abbrev pub served_below : Tree → ℕ → ℕ → ℕ
served_below tree form zero = 0
served_below tree form (suc n) = served_below tree form n + (if serves tree form n then 1 else 0)

-- how many of the numbers from 0 to 1000 the expression gives this form
abbrev pub numbers_served : Tree → ℕ → ℕ
numbers_served tree form = served_below tree form 1001

-- whether each of this many forms serves five numbers or more
abbrev pub forms_served : Tree → ℕ → List Bool
forms_served tree zero = []
forms_served tree (suc form) = forms_served tree form ++ (nat_le 5 (numbers_served tree form) ∷ [])

-- whether each form does, by this rule; nothing is known without a rule, or if it has more than 100 forms
abbrev pub often_served : Rule → List Bool
often_served (Given nplurals tree) = if nat_le nplurals 100 then forms_served tree nplurals else []
often_served _ = []
