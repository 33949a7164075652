use Rattle.std.proofs.Common.{arith}
use Rattle.std.proofs.lemmas.Grind.{common_steps}
use Rattle.snapshot_store.proofs.book.Seen.is_same.Goals as goal

pub returns-then-begins : goal.returns-then-begins
returns-then-begins c = grind (arith, common_steps)
