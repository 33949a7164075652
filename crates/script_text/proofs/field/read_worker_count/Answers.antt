use Rattle.std.proofs.Common.{rules}
use Rattle.script_text.proofs.field.read_worker_count.Goals as goal

pub returns-clause-reads : goal.returns-clause-reads
returns-clause-reads c = search rules
