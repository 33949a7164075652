use Rattle.std.proofs.lemmas.Bool.{false≢true}
use Rattle.live_set.proofs.Ascii.{name_is_text}
use Rattle.c_sets.proofs.sets.is_name_of.Goals as goal

pub returns-in-Err : goal.returns-in-Err
returns-in-Err c = (
  λ yes. absurd (false≢true yes),
  λ name. absurd (c.in-Err.ensures.cases.0 (name_is_text c.args.bytes.now name)),
)
