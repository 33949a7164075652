-- Private: the first member of a list of languages, and the result of searching some maps for a key.
use Rattle.std.specs.Prelude.{◌≡◌, ℕ, List, [], ◌∷◌, Option, Some, None, MatchOption, find}
use Rattle.catalogue.specs.Entry.{Entry}
use Rattle.catalogue.specs.Map.{entry_at}
use Rattle.live_set.specs.Asks.{has_key}
use Rattle.live_set.specs.LanguageList.{members}
use denote.Ref.{Bor}

-- the first of the members that count, and the rest of the list
abbrev pub IsCutAt : List ℕ → Option (Bor (List ℕ) × Bor (List ℕ)) → Type 0
IsCutAt languages cut = MatchOption cut (members languages ≡ [])
    (λ c. members languages ≡ c.0.now ∷ members c.1.now)

-- the first of the maps that has the key, and its entry there
abbrev pub IsFoundIn : List ℕ → List (List Entry) → Option (Bor (List Entry) × Entry) → Type 0
IsFoundIn key maps found = MatchOption found (find (has_key key) maps ≡ None)
    (λ f. (find (has_key key) maps ≡ Some f.0.now) × (entry_at f.0.now key ≡ Some f.1))
