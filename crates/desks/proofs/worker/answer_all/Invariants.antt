use Rattle.std.proofs.Common.{◌≡◌, take}
use Rattle.live_versions.specs.Batches.{version_of, StartsWith}
use Rattle.desks.specs.Answers.{Answered}
use Rattle.desks.proofs.worker.answer_all.Given as goal

abbrev pub invariant-loop-index : goal.invariant-loop-index
invariant-loop-index g l =
    (l.reader.book ≡ l.fn.reader.book) × StartsWith l.reader.batches l.fn.reader.batches
    × Answered l.reader.batches (version_of l.fn.reader.batches) (take l.index l.queries) l.answers.items
