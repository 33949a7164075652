use Rattle.std.proofs.Common.{sym, ◌∙◌}
use Rattle.std.specs.Str.{chars}
use Rattle.kuit_formats.proofs.CharacterLemmas.{first_is}
use Rattle.kuit_formats.proofs.characters.begins_name.Goals as goal

pub returns-in-Some : goal.returns-in-Some
returns-in-Some c = c.is_name_start.ensures
    ∙ sym (first_is (chars c.args.text.now) c.in-Some.character
    (cc (c.chars.ensures.rest, c.next.ensures.steps.2, c.in-Some.is)))
