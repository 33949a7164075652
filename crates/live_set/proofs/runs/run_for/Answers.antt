use Rattle.std.proofs.Common.{rules}
use Rattle.std.proofs.lemmas.List.Sorted.{IsPartitionPoint-from_clause}
use Rattle.live_set.specs.LoadRuns.{begins_by, loads_in}
use Rattle.live_set.proofs.Running.{begun_by}
use Rattle.live_set.proofs.runs.run_for.Goals as goal

pub returns-clause-parted : goal.returns-clause-parted
returns-clause-parted g c = λ parted.
    rw (begun_by c.partition_point.result c.checked_sub.result c.checked_sub.ensures)
    (IsPartitionPoint-from_clause
    (λ run. begins_by c.args.domain.now c.args.locale.now (loads_in g.R.Run.loads run)) c.args.later.now
    c.partition_point.result c.partition_point.ensures.partitioned parted (λ a r f' called. search rules))
