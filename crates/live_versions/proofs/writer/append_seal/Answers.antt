use Rattle.std.proofs.Common.{drop, ap}
use Rattle.live_versions.specs.Changes.{loads_of}
use Rattle.live_versions.proofs.Changes.{seal_added}
use Rattle.live_versions.proofs.writer.append_seal.Goals as goal
use Rattle.live_versions.proofs.writer.append_seal.Goals.{in-Ok, in-Err}

pub returns-clause-loads : goal.returns-clause-loads
returns-clause-loads c =
    let old = drop c.args.writer.now.behind c.args.writer.now.log.items in
    let new = drop c.append.new.self.behind c.append.new.self.log.items in
    elim c.match-append.branch [
      | in-Ok w ↦ seal_added old new c.args.seal w.in-Ok.ensures.pending
      | in-Err w ↦ ap
          loads_of w.in-Err.ensures.pending.1
    ]
