-- What a store and a reader at hand say of each other.
use Rattle.std.specs.Prelude.{◌≡◌, ⊤, MatchOption}
use Rattle.live_loads.specs.Batches.{StartsWith}
use Rattle.c_sets.specs.Making.{any_reader_in}
use Rattle.c_sets.specs.declared.sets.HeldSet.{HeldSet}
use Rattle.c_stores.specs.declared.stores.HeldStore.{HeldStore}

-- the reader, wherever it is, has the store's book
abbrev pub AreOfOneStore : HeldStore → HeldSet → Type 0
AreOfOneStore store reader = MatchOption store.publisher ⊤ (λ s. MatchOption (any_reader_in reader.origin) ⊤
    (λ view. view.book ≡ s.seen.book))

-- what the reader has seen, wherever it is, is a beginning of what is published in the store
abbrev pub Agrees : HeldStore → HeldSet → Type 0
Agrees store reader = MatchOption store.publisher ⊤ (λ s. MatchOption (any_reader_in reader.origin) ⊤
    (λ view. StartsWith s.seen.batches view.batches))
