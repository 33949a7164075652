use Rattle.life.proofs.Common.{take, joined_loads, AreTextsOf}
use Rattle.live_versions.specs.Entering.{visit_of}
use Rattle.life.proofs.answer.look_all.Given as goal

abbrev pub invariant-loop-index : goal.invariant-loop-index
invariant-loop-index l = AreTextsOf (joined_loads (visit_of l.pinned).batches) (take l.index l.queries) l.texts.items
