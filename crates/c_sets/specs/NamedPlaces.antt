-- Lists of languages that C looks at once, and look-ups at the places that they name.
use Rattle.std.specs.Prelude.{◌≡◌, ℕ, List, [], MatchOption}
use Rattle.std.specs.Str.{IsUtf8}
use Rattle.live_set.specs.SetPlaces.{IsListed, map_among}
use Rattle.live_set.specs.Sets.{SetValue}
use Rattle.live_set.specs.declared.places.Places.{Places}
use Rattle.c_sets.specs.declared.sets.HeldSet.{HeldSet}
use Rattle.c_answers.specs.Answering.{IsClosedAnswer, Question, key_of}
use Rattle.c_sets.specs.Making.{set_in}

-- the places that a list of languages names in a set; none if the domain or the list isn't UTF-8
pub record AreNamed (set : SetValue) (domain languages : List ℕ) (places : Places) : Type 0 where
  pub asked : IsUtf8 domain → IsUtf8 languages → IsListed set.held domain languages places
  pub no_domain : ¬ IsUtf8 domain → places.count ≡ 0
  pub no_languages : ¬ IsUtf8 languages → places.count ≡ 0

-- the answer to a question at these places of a set
abbrev pub IsAnswerAt : SetValue → List ℕ → Question → List ℕ → Type 0
IsAnswerAt set places q text = IsClosedAnswer (map_among set.held places (key_of q)) q text

-- both for a set that C holds
abbrev pub AreSetPlaces : HeldSet → List ℕ → List ℕ → Places → Type 0
AreSetPlaces s domain languages places = MatchOption (set_in s.origin) (places.count ≡ 0)
    (λ set. AreNamed set domain languages places)

abbrev pub IsSetAnswerAt : HeldSet → List ℕ → Question → List ℕ → Type 0
IsSetAnswerAt s places q text = MatchOption (set_in s.origin) (text ≡ []) (λ set. IsAnswerAt set places q text)
