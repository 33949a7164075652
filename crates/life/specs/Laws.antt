-- The laws of a store's life: each call adds to what was done, and a store whose readers have settled has one history.
use Rattle.std.specs.Prelude.{◌≡◌, ◌⊎◌, ◌∷◌, [], ◌++◌, ℕ, List, map}
use Rattle.std.specs.List.{All, AllByRecursion}
use Rattle.catalogue.specs.declared.Options.{Options}
use Rattle.catalogue.specs.declared.Stats.{Stats}
use Rattle.live_set.specs.Asks.{QueryValue, IsAnswer as HasText}
use Rattle.live_set.specs.Loads.{LoadValue}
use Rattle.live_versions.specs.Batches.{joined_loads, version_of, StartsWith, after_publish}
use Rattle.live_versions.specs.Seen.{SeenValue}
use Rattle.live_versions.specs.Store.{StoreValue, Accepts, AcceptsMo}
use Rattle.live_versions.specs.History.{Event, Accept, Refuse, Publish}
use Rattle.life.specs.Acts.{Looked, Act, Enters, Learns, AreTexts}
use Rattle.life.specs.Reached.{StoreLists, lists_of, HasWorked, HasActed, Reached}
use Rattle.life.specs.Life.{IsLifeOf}

-- ---- one store

-- `open_store`
abbrev pub OpenReaches : Type 0
OpenReaches = (s : StoreValue) (readers : List SeenValue) → s.seen.batches ≡ [] → s.pending ≡ []
    → All (λ r. r ≡ s.seen) readers
    → Reached (lists_of s) (map (λ r. r.batches) readers) [] (map (λ r. []) readers)

-- if each reader has settled with what is published, the store has one history from its opening on
abbrev pub HasOneLife : Type 0
HasOneLife = (s : StoreLists) (seen : List (List (List LoadValue))) (work : List Event) (acts : List (List Act))
    → Reached s seen work acts → AllByRecursion (StartsWith s.batches) seen
    → (history : List Event) × IsLifeOf s seen work acts history

-- ---- the publisher

-- `Publisher::load`, accepted
abbrev pub LoadKeeps : Type 0
LoadKeeps = (work : List Event) (s t : StoreValue) (domain locale text : List ℕ) (options : Options) (stats : Stats)
    → HasWorked work (lists_of s) → (is : Accepts s domain locale text options stats t)
    → HasWorked (work ++ Accept (record { domain = domain; locale = locale; map = is.compiled.catalogue }) ∷ [])
    (lists_of t)

-- `Publisher::load_mo`, accepted
abbrev pub LoadMoKeeps : Type 0
LoadMoKeeps = (work : List Event) (s t : StoreValue) (domain locale bytes : List ℕ) (entries : ℕ)
    → HasWorked work (lists_of s) → (is : AcceptsMo s domain locale bytes entries t)
    → HasWorked (work ++ Accept (record { domain = domain; locale = locale; map = is.map }) ∷ []) (lists_of t)

-- either of them, refused
abbrev pub RefusalKeeps : Type 0
RefusalKeeps = (work : List Event) (s t : StoreValue) → HasWorked work (lists_of s) → t ≡ s
    → HasWorked (work ++ Refuse ∷ []) (lists_of t)

-- `Publisher::publish`
abbrev pub PublishKeeps : Type 0
PublishKeeps = (work : List Event) (s t : StoreValue) → HasWorked work (lists_of s)
    → t.seen ≡ record { book = s.seen.book; batches = after_publish s.seen.batches s.pending } → t.pending ≡ []
    → t.most ≡ s.most → HasWorked (work ++ Publish ∷ []) (lists_of t)

-- ---- a reader

-- `Lookups::enter`, the look-ups and `Pinned::leave`
abbrev pub EnterKeeps : Type 0
EnterKeeps = (acts : List Act) (old entry new : SeenValue) (version : ℕ) (looked : List Looked)
    → HasActed acts old.batches
    → StartsWith entry.batches old.batches → version ≡ version_of entry.batches
    → AreTexts (joined_loads entry.batches) looked → new ≡ entry
    → HasActed (acts ++ Enters version looked ∷ []) new.batches

-- `Lookups::ask` and `ask_into`
abbrev pub AskKeeps : Type 0
AskKeeps = (acts : List Act) (old new : SeenValue) (version : ℕ) (query : QueryValue) (text : List ℕ)
    → HasActed acts old.batches → (version ≡ version_of new.batches) × HasText (joined_loads new.batches) query text
    → StartsWith new.batches old.batches
    → HasActed (acts ++ Enters version (record { query = query; text = text } ∷ []) ∷ []) new.batches

-- if they are refused memory there was an entry, or none
abbrev pub AskFaultKeeps : Type 0
AskFaultKeeps = (acts : List Act) (old new : SeenValue) → HasActed acts old.batches
    → StartsWith new.batches old.batches → HasActed (acts ++ Enters (version_of new.batches) [] ∷ []) new.batches

-- `Lookups::learn`
abbrev pub LearnKeeps : Type 0
LearnKeeps = (acts : List Act) (old new notice : SeenValue) → HasActed acts old.batches
    → StartsWith new.batches old.batches × StartsWith new.batches notice.batches
    → (new ≡ old) ⊎ (new ≡ notice) → HasActed (acts ++ Learns (version_of notice.batches) ∷ []) new.batches

-- `Lookups::settle`, and then the store begins with what the reader has seen
abbrev pub SettleKeeps : Type 0
SettleKeeps = (acts : List Act) (old new notice : SeenValue) (version : ℕ) → HasActed acts old.batches
    → (version ≡ version_of notice.batches) × StartsWith notice.batches old.batches × (new ≡ notice)
    → HasActed (acts ++ Learns version ∷ []) new.batches × StartsWith notice.batches new.batches
