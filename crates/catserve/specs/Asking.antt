-- Private: what the desks of the workers are asked, and what is written of their answers.
use Rattle.std.specs.Prelude.{◌≡◌, ⊤, ℕ, zero, suc, ◌+◌, Bool, nat_lt, List, [], ◌∷◌, ◌++◌, length, map}
use Rattle.std.specs.List.{flat_map}
use Rattle.std.specs.String.{string_bytes}
use Rattle.live_set.specs.Asks.{QueryValue}
use Rattle.live_versions.specs.Seen.{SeenValue}
use Rattle.desks.specs.declared.desk.Answer.{Answer}
use Rattle.desks.specs.declared.desk.Desk.{Desk}
use Rattle.catserve.specs.Output.{answer_line}
use Rattle.script_text.specs.Script.{QuestionValue, queries_for}

-- the readers of some desks
abbrev pub readers_of : List Desk → List SeenValue
readers_of desks = map (λ (desk : Desk). desk.reader) desks

-- the desks, which are counted from this number on, have what these questions ask their workers
abbrev pub AreAsked : ℕ → List QuestionValue → List Desk → Type 0
AreAsked worker questions [] = ⊤
AreAsked worker questions (desk ∷ desks) = (desk.queries.items ≡ queries_for worker questions)
    × AreAsked (worker + 1) questions desks

-- the desk has a question
abbrev pub is_asked : Desk → Bool
is_asked desk = nat_lt 0 (length desk.queries.items)

-- one more query was given to the desk with this number, if there is one
abbrev pub GivesOne : List Desk → ℕ → QueryValue → List Desk → Type 0
GivesOne [] worker query [] = ⊤
GivesOne (desk ∷ desks) zero query (after ∷ others) = (after.queries.items ≡ desk.queries.items ++ query ∷ [])
    × (after.reader ≡ desk.reader) × (others ≡ desks)
GivesOne (desk ∷ desks) (suc worker) query (after ∷ others) = (after ≡ desk) × GivesOne desks worker query others
GivesOne _ worker query _ = ⊥

-- the questions and the answers of a desk are freed
pub record IsFreed (desk after : Desk) : Type 0 where
  pub reader : after.reader ≡ desk.reader
  pub queries : after.queries.items ≡ []

-- the lines of a worker's answers
abbrev pub answer_lines : ℕ → List Answer → List ℕ
answer_lines worker answers = flat_map (λ (a : Answer). answer_line worker a.version (string_bytes a.text)) answers

-- the lines of all answers of desks, which are counted from this number on
abbrev pub desk_lines : ℕ → List Desk → List ℕ
desk_lines worker [] = []
desk_lines worker (desk ∷ desks) = answer_lines worker desk.answers.items ++ desk_lines (worker + 1) desks
