use Rattle.life.proofs.Common.{◌≡◌, All}
use Rattle.life.proofs.board.Board.newest.Given as goal

abbrev pub invariant-slots : goal.invariant-slots
invariant-slots g l = g.P.SlotRule.holds l.self l.newest × All (λ slot. slot.tag ≡ l.self) l.slot-items
