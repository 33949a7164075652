use Rattle.kuit_formats.proofs.CharacterLemmas.{characters_are, no_characters}
use Rattle.kuit_formats.proofs.characters.are_characters.Goals as goal

pub returns-in-Ok : goal.returns-in-Ok
returns-in-Ok c = characters_are c.args.bytes.now c.in-Ok.text.now c.all_may_be_at.result c.in-Ok.ensures.0
    c.in-Ok.ensures.1 c.all_may_be_at.ensures

pub returns-in-Err : goal.returns-in-Err
returns-in-Err c = no_characters c.args.bytes.now c.in-Err.ensures
