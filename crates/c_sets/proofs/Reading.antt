-- A question to the set of a version is answered from the loads that are published in it.
use Rattle.std.proofs.Common.{◌≡◌, ℕ, List, [], refl, subst}
use Rattle.std.specs.Prelude.{MatchOption}
use Rattle.live_set.specs.Asks.{map_with}
use Rattle.live_set.specs.LanguageList.{named_locales}
use Rattle.live_set.specs.Loads.{LoadValue, map_of}
use Rattle.live_set.specs.Sets.{fold, map_in}
use Rattle.live_loads.specs.Batches.{joined_loads}
use Rattle.live_loads.proofs.Looking.{searched}
use Rattle.c_answers.specs.Answering.{IsClosedAnswer, Question, key_of}
use Rattle.c_sets.specs.Making.{IsAnswerFrom, IsAnswerIn, IsAnswerOver, set_in}
use Rattle.c_sets.specs.declared.sets.Origin.{Origin}
use Rattle.c_sets.specs.declared.sets.Origin.TheVariants.{Made, Lent, Left, Refused}
use Rattle.mo_image.specs.Entry.{Entry}

same_map : (loads : List LoadValue) (domain languages : List ℕ) (q : Question)
    → map_with (map_in (fold loads).held) domain languages (key_of q)
    ≡ map_with (map_of loads) domain languages (key_of q)
same_map loads domain languages q = searched loads domain (key_of q) (named_locales languages)

answered_over : (loads : List LoadValue) (domain languages : List ℕ) (q : Question) (text : List ℕ)
    → IsAnswerIn (fold loads) domain languages q text → IsAnswerOver loads domain languages q text
answered_over loads domain languages q text h = record {
  asked = λ d l. subst (λ (m : List Entry). IsClosedAnswer m q text) (same_map loads domain languages q)
      (h.asked d l);
  no_domain = h.no_domain;
  no_languages = h.no_languages;
}

pub answered_from : (origin : Origin) (domain languages : List ℕ) (q : Question) (text : List ℕ)
    → MatchOption (set_in origin) (text ≡ []) (λ set. IsAnswerIn set domain languages q text)
    → IsAnswerFrom origin domain languages q text
answered_from (Made set) domain languages q text h = h
answered_from (Lent reader) domain languages q text h =
    answered_over (joined_loads reader.batches) domain languages q text h
answered_from (Left reader set) domain languages q text h = h
answered_from Refused domain languages q text h = h
