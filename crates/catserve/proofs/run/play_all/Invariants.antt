use Rattle.catserve.proofs.Common.{into_iter_items, into_iter_len, length}
use Rattle.catserve.proofs.ScriptTalk.{HasCome}
use Rattle.catserve.proofs.Turns.{HasTaken}
use Rattle.catserve.proofs.run.play_all.Given as goal

abbrev pub invariant-lines : goal.invariant-lines
invariant-lines g l = record {
  taken : HasTaken (into_iter_items l.initial.said-iterator) l.yielded (into_iter_items l.said-iterator)
      (into_iter_len l.said-iterator);
  come : HasCome (length l.fn.player.desks) l.yielded l.fn.player l.player (g.W.Sink.contents l.fn.writer)
      (g.W.Sink.contents l.writer);
}
