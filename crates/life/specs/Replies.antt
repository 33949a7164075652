-- What requests are answered.
use Rattle.std.specs.Prelude.{◌≡◌, ℕ, List, [], ◌∷◌, ◌++◌, String, length, IsSome, Option, None, Some}
use Rattle.std.specs.List.{AllZip}
use Rattle.std.specs.declared.alloc.Global.{Global}
use Rattle.std.specs.String.{string_bytes}
use Rattle.live_set.specs.Loads.{LoadValue}
use Rattle.live_set.specs.Asks.{QueryValue, IsAnswer as HasText}
use Rattle.life.specs.declared.client.Reply.{Reply}
use Rattle.life.specs.declared.client.Request.{Request}
use Rattle.life.specs.declared.client.Request.TheVariants.{Ask, AskInto, Group, LearnFirst}
use Rattle.life.specs.Acts.{Looked, Act, Enters, Learns, LeadsAll}

-- the queries of a request, all of which are looked up in one entry
abbrev pub queries_in : Request → List QueryValue
queries_in (Ask query) = query ∷ []
queries_in (AskInto query) = query ∷ []
queries_in (Group queries) = queries.items
queries_in (LearnFirst queries) = queries.items

-- one text for each query, which is its answer over these loads
abbrev pub AreTextsOf : List LoadValue → List QueryValue → List (String Global) → Type 0
AreTextsOf loads queries texts = AllZip (λ query text. HasText loads query (string_bytes text)) queries texts

-- a request that has the reader learn first is told the version of a notice, and no other is
abbrev pub IsTold : Request → Option ℕ → Type 0
IsTold (LearnFirst queries) learnt = IsSome learnt
IsTold request learnt = learnt ≡ None

-- the reply has one text for each query, and names a notice if the request is to learn first
pub record IsReplyTo (request : Request) (reply : Reply) : Type 0 where
  pub told : IsTold request reply.learnt
  pub texts : length reply.texts.items ≡ length (queries_in request)

-- one reply for each request
abbrev pub AreReplies : List Request → List Reply → Type 0
AreReplies requests replies = AllZip IsReplyTo requests replies

-- each query with its text
abbrev pub looked_up : List QueryValue → List (String Global) → List Looked
looked_up (query ∷ queries) (text ∷ texts) =
    record { query = query; text = string_bytes text } ∷ looked_up queries texts
looked_up _ _ = []

-- a notice of this version is learnt, if there is one
abbrev pub learning_acts : Option ℕ → List Act
learning_acts None = []
learning_acts (Some version) = Learns version ∷ []

-- the acts of a reply: the notice that it names is learnt, if it names one, and then all queries are looked up in one
-- entry
abbrev pub acts_of_one : List QueryValue → Reply → List Act
acts_of_one queries reply = learning_acts reply.learnt ++ Enters reply.version (looked_up queries reply.texts.items)
    ∷ []

-- those of all requests, in order
abbrev pub acts_for : List Request → List Reply → List Act
acts_for (request ∷ requests) (reply ∷ replies) = acts_of_one (queries_in request) reply ++ acts_for requests replies
acts_for _ _ = []

-- queries are answered by this reply of a reader that had seen these batches before, and has seen those afterwards
pub record IsAnswered (queries : List QueryValue) (seen next : List (List LoadValue)) (reply : Reply) : Type 0 where
  pub texts : length reply.texts.items ≡ length queries
  pub leads : LeadsAll seen (acts_of_one queries reply) next
