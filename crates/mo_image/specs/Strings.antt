-- Private: the two strings that an MO file has of an entry, and those of a list of entries.
use Rattle.std.specs.Prelude.{ℕ, List, map}
use Rattle.mo_image.specs.Entry.{Entry, original, translation}
use Rattle.mo_image.specs.declared.writer.Side.{Side}
use Rattle.mo_image.specs.declared.writer.Side.TheVariants.{Original, Translation}

abbrev pub string_of : Side → Entry → List ℕ
string_of Original e = original e
string_of Translation e = translation e

abbrev pub strings_of : Side → List Entry → List (List ℕ)
strings_of side m = map (string_of side) m
