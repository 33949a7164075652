use Rattle.std.proofs.Common.{rules}
use Rattle.mo_tables.proofs.blocks.block_at.Goals as goal

pub returns : goal.returns
returns c = search rules
