-- Private: the arguments asked for, as the code keeps them.
use Rattle.std.specs.Prelude.{◌≡◌, ℕ, List, ◌++◌, Option, None, Some}
use Rattle.std.specs.List.{filter_map}
use Rattle.std.specs.List.Sorted.{IsNonDecreasingBy}
use Rattle.c_signature.specs.declared.ArgKind.{ArgKind}
use Rattle.c_signature.specs.declared.FormatFault.{FormatFault}
use Rattle.c_signature.specs.declared.FormatFault.TheVariants.{Invalid, SystemDependent, Memory}
use Rattle.c_signature.specs.declared.requests.Row.{Row}
use Rattle.c_signature.specs.declared.requests.Requests.{Requests}
use Rattle.c_signature.specs.Signature.{Request, request}

-- the kind of an argument without a number
abbrev pub kind_unless : Option ℕ → ArgKind → Option ArgKind
kind_unless None kind = Some kind
kind_unless (Some m) kind = None

abbrev pub unnumbered_kind : Request → Option ArgKind
unnumbered_kind r = kind_unless r.number r.kind

-- the row of an argument with a number
abbrev pub row_at : Option ℕ → ArgKind → Option Row
row_at None kind = None
row_at (Some m) kind = Some (record { number = m; kind = kind })

abbrev pub row_of : Request → Option Row
row_of r = row_at r.number r.kind

abbrev pub request_of : Row → Request
request_of row = request (Some row.number) row.kind

-- what is asked for, in two lists: without and with a number
pub record KeepsAsked (asked : List Request) (kept : Requests) : Type 0 where
  pub unnumbered : kept.unnumbered.items ≡ filter_map unnumbered_kind asked
  pub numbered : kept.numbered.items ≡ filter_map row_of asked

-- these requests are also kept
abbrev pub AddsAsked : Requests → Requests → List Request → Type 0
AddsAsked old new more = (asked : List Request) → KeepsAsked asked old → KeepsAsked (asked ++ more) new

abbrev pub IsRising : List Row → Type 0
IsRising rows = IsNonDecreasingBy (λ row. row.number) rows

-- Invalid only if P holds, SystemDependent never
abbrev pub IsInvalidOnly : FormatFault → Type 0 → Type 0
IsInvalidOnly Invalid P = P
IsInvalidOnly SystemDependent P = ⊥
IsInvalidOnly Memory P = Unit {0}
