use Rattle.std.proofs.Common.{rules}
use Rattle.live_versions.proofs.seal.Seal.bind.Goals as goal

pub add_batch-requires-clause-loads : goal.add_batch-requires-clause-loads
add_batch-requires-clause-loads c = search rules
