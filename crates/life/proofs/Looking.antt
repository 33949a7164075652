-- A query that is looked up in the set of a version is answered from the loads that are published in it.
use Rattle.life.proofs.Common.{◌≡◌, ℕ, List, subst, QueryValue, HasValue, HasAnswer, IsAnswer, answering_map, key_of}
use Rattle.life.proofs.Common.{LoadValue, map_of, joined_loads}
use Rattle.mo_image.specs.Entry.{Entry}
use Rattle.live_set.specs.LanguageList.{named_locales}
use Rattle.live_set.specs.Sets.{SetValue, fold, map_in}
use Rattle.live_loads.proofs.Looking.{searched}
use Rattle.snapshot_store.specs.Holding.{IsSetOf}

same_map : (loads : List LoadValue) (set : SetValue) (query : QueryValue) → set ≡ fold loads
    → answering_map (map_in set.held) query ≡ answering_map (map_of loads) query
same_map loads set query is = rw is (searched loads query.domain (key_of query.ask) (named_locales query.languages))

pub asked : (batches : List (List LoadValue)) (set : SetValue) (query : QueryValue) (text : List ℕ)
    → IsSetOf batches set → HasAnswer (map_in set.held) query text → IsAnswer (joined_loads batches) query text
asked batches set query text of has =
    subst (λ (m : List Entry). HasValue m query.ask text) (same_map (joined_loads batches) set query of.is) has
