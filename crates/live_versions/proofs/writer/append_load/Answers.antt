use Rattle.std.proofs.Common.{drop}
use Rattle.live_versions.proofs.Changes.{load_added}
use Rattle.live_versions.proofs.writer.append_load.Goals as goal
use Rattle.live_versions.proofs.writer.append_load.Goals.{in-Ok, in-Err}

pub returns-clause-ok : goal.returns-clause-ok
returns-clause-ok c =
    let old = drop c.args.writer.now.behind c.args.writer.now.log.items in
    let new = drop c.append.new.self.behind c.append.new.self.log.items in
    elim c.match-append.branch [
      | in-Ok w ↦ rw w.result-is (load_added old new c.args.load w.in-Ok.ensures.pending)
      | in-Err w ↦ rw w.result-is tt
    ]
