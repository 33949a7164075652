-- Private: the changes that a writer has logged and not yet published.
use Rattle.std.specs.Prelude.{◌≡◌, List, [], ◌∷◌, ◌++◌}
use Rattle.live_set.specs.Loads.{LoadValue}
use Rattle.live_versions.specs.declared.rule.Change.{Change}
use Rattle.live_versions.specs.declared.rule.Change.TheVariants.{Load, Seal}
use Rattle.live_loads.specs.Seen.{SeenValue}

-- the loads among some changes
abbrev pub loads_of : List Change → List LoadValue
loads_of [] = []
loads_of (Load load ∷ changes) = load ∷ loads_of changes
loads_of (Seal seen ∷ changes) = loads_of changes

-- the last change is this seal
abbrev pub EndsIn : SeenValue → List Change → Type 0
EndsIn f changes = (first : List Change) × (changes ≡ first ++ Seal f ∷ [])
