use Rattle.std.proofs.Common.{sym, ◌∙◌}
use Rattle.kuit_formats.proofs.CharacterLemmas.{name_is, no_name}
use Rattle.kuit_formats.proofs.characters.is_name.Goals as goal

pub returns-then-begins_name : goal.returns-then-begins_name
returns-then-begins_name c = name_is c.args.bytes.now c.in-Ok.text.now c.all_may_be_at.result c.in-Ok.ensures.0
    c.in-Ok.ensures.1 (rw (sym c.begins_name.ensures ∙ c.if-begins_name.true) c.all_may_be_at.ensures)

pub returns-in-Err : goal.returns-in-Err
returns-in-Err c = no_name c.args.bytes.now c.in-Err.ensures
