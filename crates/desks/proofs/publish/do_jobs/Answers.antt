use Rattle.std.proofs.Common.{rules, ◌+◌, ◌++◌, ◌∷◌, [], refl, sym, take, drop}
use Rattle.std.proofs.lemmas.List.{take-append-drop}
use Rattle.desks.proofs.Jobs.{is_published, playing_first, playing_more, split_at, split_behind, stops_done}
use Rattle.desks.proofs.Jobs.{stops_in_job, taken}
use Rattle.desks.proofs.publish.do_jobs.Goals as goal

pub loop-index-init : goal.loop-index-init
loop-index-init g c =
    playing_first c.args.publisher.now c.publish.new.self c.clear.new.self.items (search rules)
    (is_published c.args.publisher.now c.publish.new.self (search rules) (search rules) (search rules))

pub loop-index-preserved : goal.loop-index-preserved
loop-index-preserved g c =
    let jobs = c.args.jobs.now in
    let i = c.loop-index.index in
    let j = c.index-jobs-index.result in
    let o = c.in_ok-outcome.outcome in
    playing_more c.args.publisher.now c.loop-index.publisher c.do_job.new.publisher (take i jobs) (take (i + 1) jobs) j
    c.loop-index.outcomes.items c.push.new.self.items o c.loop-index.invariant c.in_ok-outcome.ensures.ok
    c.do_job.ensures.book c.do_job.ensures.most (taken jobs i j (search rules) c.index-jobs-index.is) (search rules)

pub returns-in_err-outcome-clause-stops : goal.returns-in_err-outcome-clause-stops
returns-in_err-outcome-clause-stops g c =
    let jobs = c.args.jobs.now in
    let i = c.loop-index.index in
    let j = c.index-jobs-index.result in
    stops_in_job c.args.publisher.now c.loop-index.publisher c.do_job.new.publisher jobs (take i jobs) j
    (drop (i + 1) jobs) c.loop-index.outcomes.items (split_at jobs i j (search rules) c.index-jobs-index.is)
    c.loop-index.invariant.done c.in_err-outcome.ensures.err

pub returns-then-is_err-2-clause-stops : goal.returns-then-is_err-2-clause-stops
returns-then-is_err-2-clause-stops g c =
    let jobs = c.args.jobs.now in
    let i = c.loop-index.index in
    let j = c.index-jobs-index.result in
    let o = c.in_ok-outcome.outcome in
    let os = c.loop-index.outcomes.items in
    let more = playing_more c.args.publisher.now c.loop-index.publisher c.do_job.new.publisher (take i jobs)
    (take i jobs ++ j ∷ []) j os (os ++ o ∷ []) o c.loop-index.invariant c.in_ok-outcome.ensures.ok
    c.do_job.ensures.book c.do_job.ensures.most refl refl in
    stops_done c.args.publisher.now c.do_job.new.publisher jobs (take i jobs ++ j ∷ []) (drop (i + 1) jobs)
    (os ++ o ∷ []) (split_behind jobs i j (search rules) c.index-jobs-index.is) more.done

pub returns-clause-stops : goal.returns-clause-stops
returns-clause-stops g c =
    let jobs = c.args.jobs.now in
    let i = c.loop-index.index in
    stops_done c.args.publisher.now c.loop-index.publisher jobs (take i jobs) (drop i jobs) c.loop-index.outcomes.items
    (sym (take-append-drop i jobs)) c.loop-index.invariant.done
