use Rattle.life.proofs.Common.{◌≡◌, take, StartsWith}
use Rattle.life.proofs.Entries.{Replied}
use Rattle.life.proofs.answer.answer_all.Given as goal

abbrev pub invariant-loop-index : goal.invariant-loop-index
invariant-loop-index g l =
    (l.reader.book ≡ l.fn.reader.book) × StartsWith l.reader.batches l.fn.reader.batches
    × Replied l.fn.reader.batches l.reader.batches (take l.index l.requests) l.replies.items
