-- Private: what a reader that is outside the store knows of its book.
use Rattle.std.specs.Prelude.{◌≡◌, ⊤, [], ◌∷◌, Option, Some, None, Bool, false}
use Rattle.std.specs.declared.alloc.Global.{Global}
use Rattle.left_right.specs.Sides.{view}
use Rattle.left_right.specs.declared.reader.Reader.{Reader}
use Rattle.live_loads.specs.Seen.{SeenValue}
use Rattle.live_versions.specs.declared.rule.Shown.{Shown}
use Rattle.live_versions.specs.declared.rule.View.{View}
use Rattle.live_versions.specs.declared.rule.Versions.{Versions}

-- it knows its book, and it last entered exactly what was seen, unless that came from a notice
abbrev pub IsHome : Option (Reader Shown View Versions Global) → Bool → SeenValue → Type 0
IsHome (Some r) apart f = ((view r.place).books ≡ f.book ∷ []) × (apart ≡ false → (view r.place).batches ≡ f.batches)
IsHome None apart f = ⊤
