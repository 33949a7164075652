-- The numbers of what directives ask for: one with a number has that one, and each goes on from the one before it.
use Rattle.std.specs.Prelude.{◌≡◌, ℕ, List, [], ◌∷◌, ◌++◌}
use Rattle.std.specs.Option.{unwrap_or}
use Rattle.numbered_arguments.specs.declared.Numbered.{Numbered}
use Rattle.numbered_arguments.specs.declared.Request.{Request}
use Rattle.script_formats.specs.ScriptParts.{following_number}
use Rattle.gfc_internal_format.specs.declared.counting.Counted.{Counted}

-- the number of what is asked for, where this one is next
abbrev pub number_of : ℕ → Request → ℕ
number_of next r = unwrap_or r.number next

abbrev pub with_number : ℕ → Request → Numbered
with_number next r = record { number = number_of next r; kind = r.kind }

abbrev pub with_numbers_from : ℕ → List Request → List Numbered
with_numbers_from next [] = []
with_numbers_from next (r ∷ more) = with_number next r ∷ with_numbers_from (following_number (number_of next r)) more

abbrev pub with_numbers : List Request → List Numbered
with_numbers requests = with_numbers_from 1 requests

-- ---- the code's state

-- the number that is next after these
abbrev pub next_behind : ℕ → List Request → ℕ
next_behind next [] = next
next_behind next (r ∷ more) = next_behind (following_number (number_of next r)) more

-- all of these have their numbers
pub record HasCounted (requests : List Request) (counted : Counted) : Type 0 where
  pub asked : counted.asked.items ≡ with_numbers requests
  pub next : counted.next ≡ next_behind 1 requests

-- these also got their numbers
abbrev pub Adds : Counted → Counted → List Request → Type 0
Adds old new more = (requests : List Request) → HasCounted requests old → HasCounted (requests ++ more) new
