use Rattle.std.proofs.Common.{◌≡◌, length, drop}
use Rattle.std.specs.List.{list_all}
use Rattle.std.specs.Str.{chars}
use Rattle.kuit_formats.specs.KuitCharacters.{may_be_at}
use Rattle.kuit_formats.proofs.characters.all_may_be_at.Given as goal

abbrev pub invariant-loop-character : goal.invariant-loop-character
invariant-loop-character l =
    list_all (may_be_at l.place) (drop (length l.yielded) (chars l.text))
    ≡ list_all (may_be_at l.place) (chars l.text)
