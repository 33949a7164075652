-- What becomes of clients in a run.
use Rattle.std.specs.Prelude.{◌≡◌, ◌⊎◌, ℕ, List, [], ◌∷◌, ◌++◌, map}
use Rattle.live_set.specs.Loads.{LoadValue}
use Rattle.live_versions.specs.Seen.{SeenValue}
use Rattle.live_versions.specs.Batches.{version_of, StartsWith}
use Rattle.life.specs.declared.client.Client.{Client}
use Rattle.life.specs.Acts.{Act, Learns, LeadsAll}
use Rattle.life.specs.Replies.{AreReplies, acts_for}

-- the requests stay, and the reader stays in its store and has seen all that it had seen
pub record KeepsClient (client after : Client) : Type 0 where
  pub requests : after.requests ≡ client.requests
  pub book : after.reader.book ≡ client.reader.book
  pub seen : StartsWith after.reader.batches client.reader.batches

-- the reader learns of what is published at the start: the longer of both lists is seen
pub record HasLearnt (start : SeenValue) (client after : Client) : Type 0 where
  pub kept : KeepsClient client after
  pub told : StartsWith after.reader.batches start.batches
  pub one : (after.reader ≡ client.reader) ⊎ (after.reader ≡ start)

-- each request is answered by one entry, one after another, and the notices that replies name are learnt before
pub record HasAnswered (client after : Client) : Type 0 where
  pub each : AreReplies client.requests.items after.replies.items
  pub leads : LeadsAll client.reader.batches (acts_for client.requests.items after.replies.items)
      after.reader.batches

-- the reader settles with what is published at the end
pub record HasSettled (end : SeenValue) (client after : Client) : Type 0 where
  pub reader : after.reader ≡ end
  pub later : StartsWith end.batches client.reader.batches
  pub requests : after.requests ≡ client.requests
  pub replies : after.replies ≡ client.replies

-- what a client does in a run: it learns a notice of the start, enters for each request, before which it may learn one
-- more, and learns one of the end
abbrev pub run_acts : ℕ → ℕ → Client → List Act
run_acts start end client = Learns start ∷ (acts_for client.requests.items client.replies.items ++ Learns end ∷ [])

-- a run is over for a client: it has a reply to each request, and has seen what is published at the end
pub record IsServed (start end : SeenValue) (client after : Client) : Type 0 where
  pub reader : after.reader ≡ end
  pub requests : after.requests ≡ client.requests
  pub each : AreReplies after.requests.items after.replies.items
  pub leads : LeadsAll client.reader.batches (run_acts (version_of start.batches) (version_of end.batches) after)
      end.batches

-- what the readers of clients have seen
abbrev pub seen_by_all : List Client → List (List (List LoadValue))
seen_by_all clients = map (λ client. client.reader.batches) clients
