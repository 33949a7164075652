use Rattle.life.proofs.Common.{◌≡◌, All}
use Rattle.life.proofs.board.Board.new.Given as goal

abbrev pub invariant-loop : goal.invariant-loop
invariant-loop g l = All (λ slot. slot.tag ≡ l.tag.numbers) l.slots.items
