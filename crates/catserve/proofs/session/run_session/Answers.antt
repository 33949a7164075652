use Rattle.catserve.proofs.Common.{◌∙◌, ℕ, Option, Some, None, refl, sym, subst, err_from_is_err_and, Log, InputSeen}
use Rattle.catserve.proofs.Common.{OutputSeen, input_seen, output_seen, BeginsInTime, HearingValue}
use Rattle.catserve.proofs.SessionEnds.{begins_so, ends_at_once, front_ends}
use Rattle.catserve.proofs.SessionInTime.{begins_timely, ends_at}
use Rattle.catserve.proofs.session.run_session.Goals as goal

pub returns-in_err-hearing-clause-all : goal.returns-in_err-hearing-clause-all
returns-in_err-hearing-clause-all g c =
    let e = err_from_is_err_and c.from_residual.result c.from_residual.ensures.1 in
    rw (e.1, e.2) (ends_at_once, refl)

pub returns-in-Some-clause-all : goal.returns-in-Some-clause-all
returns-in-Some-clause-all g c =
    let i : InputSeen = input_seen g.D.Source.remaining g.D.Source.reads g.D.Source.failures c.args.device.now in
    rw c.in-Some.is (c.converse_by_store.ensures.all (Some c.in-Some.count) i (rw c.in_ok-hearing.ensures begins_so))

pub returns-in_err-count-in-None-clause-all : goal.returns-in_err-count-in-None-clause-all
returns-in_err-count-in-None-clause-all g c =
    let out = sym (g.met.D.Sink.shows c.hear_preamble.new.reader)
    ∙ c.in_err-count-in-None.ensures.keeps ∙ g.met.D.Sink.shows c.args.device.now in
    let e = err_from_is_err_and c.from_residual-in_err-count-in-None.result
    c.from_residual-in_err-count-in-None.ensures.1 in
    let o : OutputSeen = output_seen g.D.Sink.contents g.D.Sink.failures c.args.device.now in
    rw (c.in-None.is, out, e.1, e.2) (front_ends o c.in_err-count-in-None.ensures.fault)

pub returns-clause-all : goal.returns-clause-all
returns-clause-all g c =
    let i : InputSeen = input_seen g.D.Source.remaining g.D.Source.reads g.D.Source.failures c.args.device.now in
    let out = sym (g.met.D.Sink.shows c.hear_preamble.new.reader)
    ∙ c.in_ok-count-in-None.ensures.keeps ∙ g.met.D.Sink.shows c.args.device.now in
    rw (c.in-None.is, ← out) (c.converse_by_store-in-None.ensures.all None i c.in_ok-count-in-None.ensures.begins.0)

pub returns-in_err-hearing-clause-in_time : goal.returns-in_err-hearing-clause-in_time
returns-in_err-hearing-clause-in_time g c = ends_at (begins_timely)

pub returns-in-Some-clause-in_time : goal.returns-in-Some-clause-in_time
returns-in-Some-clause-in_time g c =
    let i : InputSeen = input_seen g.D.Source.remaining g.D.Source.reads g.D.Source.failures c.args.device.now in
    let a : Log = g.D.Device.log c.args.device.now in
    let given : Option ℕ = Some c.in-Some.count in
    let Q : HearingValue → Type 0 = λ x. BeginsInTime given i i x c.in-Some.count a a in
    let begun = subst Q (sym c.in_ok-hearing.ensures) (begins_so, begins_timely) in
    rw c.in-Some.is (c.converse_by_store.ensures.in_time given i begun.0 a begun.1)

pub returns-in_err-count-in-None-clause-in_time : goal.returns-in_err-count-in-None-clause-in_time
returns-in_err-count-in-None-clause-in_time g c = rw c.in-None.is c.in_err-count-in-None.ensures.in_time

pub returns-clause-in_time : goal.returns-clause-in_time
returns-clause-in_time g c =
    let i : InputSeen = input_seen g.D.Source.remaining g.D.Source.reads g.D.Source.failures c.args.device.now in
    let begun = c.in_ok-count-in-None.ensures.begins in
    rw c.in-None.is (c.converse_by_store-in-None.ensures.in_time None i begun.0 (g.D.Device.log c.args.device.now)
    begun.1)
