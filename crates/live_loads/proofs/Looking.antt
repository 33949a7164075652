-- A search of the set of a list of loads finds what its loads give.
use Rattle.std.proofs.Common.{◌≡◌, ℕ, List, [], ◌∷◌, map, refl, ap, subst, Bor}
use Rattle.catalogue.specs.Entry.{Entry}
use Rattle.live_set.specs.Loads.{LoadValue, map_of}
use Rattle.live_set.specs.Asks.{AreAnswers, HasValue, HaveAnswers, QueryValue, first_with, key_of}
use Rattle.live_set.specs.LanguageList.{named_locales}
use Rattle.live_set.specs.Sets.{fold, map_in}
use Rattle.live_set.proofs.Folding.{map_in-fold}

-- a set built from loads has the same maps as the loads
pub same_maps : (loads : List LoadValue) (domain : List ℕ) (locales : List (List ℕ))
    → map (map_in (fold loads).held domain) locales ≡ map (map_of loads domain) locales
same_maps loads domain [] = refl
same_maps loads domain (l ∷ ls) = λ i. map_in-fold loads domain l i ∷ same_maps loads domain ls i

pub searched : (loads : List LoadValue) (domain key : List ℕ) (locales : List (List ℕ))
    → first_with key (map (map_in (fold loads).held domain) locales)
    ≡ first_with key (map (map_of loads domain) locales)
searched loads domain key locales = ap (first_with key) (same_maps loads domain locales)

-- and so do many
pub searched_all : (loads : List LoadValue) (queries : List QueryValue) (answers : List (Bor (List ℕ)))
    → HaveAnswers (map_in (fold loads).held) queries answers → AreAnswers loads queries answers
searched_all loads queries answers all = record {
  count = all.count;
  each = λ i query text at got. subst (λ (m : List Entry). HasValue m query.ask text.now)
      (searched loads query.domain (key_of query.ask) (named_locales query.languages)) (all.each i query text at got);
}
