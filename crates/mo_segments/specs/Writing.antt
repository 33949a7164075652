-- Private: the strings of one side of messages.
use Rattle.std.specs.Prelude.{ℕ, List, map}
use Rattle.mo_segments.specs.declared.messages.Strings.{Strings}
use Rattle.mo_segments.specs.declared.flat.Side.{Side}
use Rattle.mo_segments.specs.declared.flat.Side.TheVariants.{Original, Translation}

abbrev pub side_of : Side → Strings → List ℕ
side_of Original m = m.original.items
side_of Translation m = m.translation.items

abbrev pub sides_of : Side → List Strings → List (List ℕ)
sides_of side messages = map (side_of side) messages
