-- What was asked for so far, with its numbers.
use Rattle.std.specs.Prelude.{◌≡◌, ℕ, List, [], ◌∷◌, ◌++◌}
use Rattle.numbered_arguments.specs.declared.Request.{Request}
use Rattle.numbered_arguments.specs.declared.numbering.Numbering.{Numbering}
use Rattle.numbered_arguments.specs.NumberedArguments.{numbered_requests, next_after}

-- the next number after these
abbrev pub next_behind : ℕ → List Request → ℕ
next_behind next [] = next
next_behind next (r ∷ more) = next_behind (next_after r.number next) more

-- all of these have their numbers
pub record HasNumbered (requests : List Request) (numbering : Numbering) : Type 0 where
  pub asked : numbering.asked.items ≡ numbered_requests requests
  pub next : numbering.next ≡ next_behind 1 requests

-- these also got their numbers
abbrev pub AddsRequests : Numbering → Numbering → List Request → Type 0
AddsRequests old new more =
    (requests : List Request) → HasNumbered requests old → HasNumbered (requests ++ more) new
