use Rattle.life.proofs.Common.{take, joined_loads, AreTextsOf}
use Rattle.life.proofs.snapshots.answer.look_all.Given as goal

abbrev pub invariant-loop-index : goal.invariant-loop-index
invariant-loop-index l = AreTextsOf (joined_loads l.reader.batches) (take l.index l.queries) l.texts.items
