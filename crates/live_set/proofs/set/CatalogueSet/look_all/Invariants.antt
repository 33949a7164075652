use Rattle.live_set.specs.Sets.{map_in}
use Rattle.live_set.proofs.AllAnswers.{Answered}
use Rattle.live_set.proofs.set.CatalogueSet.look_all.Given as goal

abbrev pub invariant-queries : goal.invariant-queries
invariant-queries l = Answered (map_in l.self.held) l.queries l.i l.answers.items
