use Rattle.life.proofs.Common.{◌≡◌, take}
use Rattle.life.specs.PublisherWork.{DoesAll}
use Rattle.life.proofs.publish.do_commands.Given as goal

abbrev pub invariant-loop-index : goal.invariant-loop-index
invariant-loop-index g l = (l.publisher.seen.book ≡ l.fn.publisher.seen.book)
    × DoesAll l.fn.publisher (take l.index l.commands) l.outcomes.items l.publisher
