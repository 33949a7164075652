use Rattle.catserve.proofs.Common.{◌∙◌, inr, sym, arith, err_from_is_err_and, Log, InputSeen, OutputSeen, input_seen}
use Rattle.catserve.proofs.Common.{output_seen, command_of}
use Rattle.catserve.proofs.SessionEnds.{all_answered, fails_so, last_answered, none_ends, taken_stays}
use Rattle.catserve.proofs.SessionInTime.{gives_none, reads_open, talks_last, talks_more, talks_none}
use Rattle.catserve.proofs.SessionTalk.{has_room}
use Rattle.catserve.proofs.session.converse.Goals as goal

pub lines-init : goal.lines-init
lines-init g c = talks_none c.requires.number c.requires.fresh

pub lines-preserved : goal.lines-preserved
lines-preserved g c =
    let out = sym (g.met.D.Sink.shows c.hear.new.reader) ∙ c.in_ok-thing.ensures.keeps
    ∙ g.met.D.Sink.shows c.lines.device in
    let inn = sym (g.met.D.Source.sees c.respond.new.writer) ∙ c.in_ok-respond.ensures.keeps
    ∙ g.met.D.Source.sees c.hear.new.reader in
    rw inn (talks_more (command_of c.in-Some.thing) c.requires.fresh c.lines.invariant
    (rw c.in-Some.is at c.in_ok-thing.ensures.heard) (rw out at c.in_ok-respond.ensures.ok))

pub lines-smaller : goal.lines-smaller
lines-smaller g c =
    let h = (rw c.in-Some.is at c.in_ok-thing.ensures.heard).0 in
    omega (arith, h.few, h.number, h.said.some)

pub respond-requires-clause-room : goal.respond-requires-clause-room
respond-requires-clause-room g c κs within =
    let h = (rw c.in-Some.is at c.in_ok-thing.ensures.heard).0 in
    has_room c.lines.invariant.0 c.requires.fresh (omega (arith, h.few))

pub returns-in_err-thing-clause-all : goal.returns-in_err-thing-clause-all
returns-in_err-thing-clause-all g c given first b =
    let k : InputSeen = input_seen g.D.Source.remaining g.D.Source.reads g.D.Source.failures c.hear.new.reader in
    let e = err_from_is_err_and c.from_residual.result c.from_residual.ensures.1 in
    let out = sym (g.met.D.Sink.shows c.hear.new.reader) ∙ c.in_err-thing.ensures.keeps
    ∙ g.met.D.Sink.shows c.lines.device in
    rw (out, e.1, e.2) (none_ends k c.hear.new.self c.in_err-thing.field-0.0.kind c.in_err-thing.field-0.0.line
    c.requires.fresh c.lines.invariant.0 c.in_err-thing.ensures.heard.0 b)

pub returns-in_err-respond-clause-all : goal.returns-in_err-respond-clause-all
returns-in_err-respond-clause-all g c given first b =
    let q : OutputSeen = output_seen g.D.Sink.contents g.D.Sink.failures c.respond.new.writer in
    let h = (rw c.in-Some.is at c.in_ok-thing.ensures.heard).0 in
    let e = err_from_is_err_and c.from_residual-in_err-respond.result c.from_residual-in_err-respond.ensures.1 in
    let out = sym (g.met.D.Sink.shows c.hear.new.reader) ∙ c.in_ok-thing.ensures.keeps
    ∙ g.met.D.Sink.shows c.lines.device in
    let inn = sym (g.met.D.Source.sees c.respond.new.writer) ∙ c.in_err-respond.ensures.keeps
    ∙ g.met.D.Source.sees c.hear.new.reader in
    rw (inn, e.1, e.2) (fails_so q c.respond.new.self c.in_err-respond.field-0.0 c.requires.fresh c.lines.invariant.0
    (taken_stays c.hear.new.self h.taken) (rw out at c.in_err-respond.ensures.fault) b)

pub returns-in_err-answer-clause-all : goal.returns-in_err-answer-clause-all
returns-in_err-answer-clause-all g c given first b =
    let q : OutputSeen = output_seen g.D.Sink.contents g.D.Sink.failures c.answer.new.writer in
    let h = (rw c.in_default.is at c.in_ok-thing.ensures.heard).0 in
    let e = err_from_is_err_and c.from_residual-in_err-answer.result c.from_residual-in_err-answer.ensures.1 in
    let out = sym (g.met.D.Sink.shows c.hear.new.reader) ∙ c.in_ok-thing.ensures.keeps
    ∙ g.met.D.Sink.shows c.lines.device in
    let inn = sym (g.met.D.Source.sees c.answer.new.writer) ∙ c.in_err-answer.ensures.keeps
    ∙ g.met.D.Source.sees c.hear.new.reader in
    rw (inn, e.1, e.2) (fails_so q c.answer.new.self c.in_err-answer.field-0.0 c.requires.fresh c.lines.invariant.0
    h.stays (rw out at c.in_err-answer.ensures.fault) b)

pub returns-in_ok-answer-clause-all : goal.returns-in_ok-answer-clause-all
returns-in_ok-answer-clause-all g c given first b =
    let out = sym (g.met.D.Sink.shows c.hear.new.reader) ∙ c.in_ok-thing.ensures.keeps
    ∙ g.met.D.Sink.shows c.lines.device in
    let inn = sym (g.met.D.Source.sees c.answer.new.writer) ∙ c.in_ok-answer.ensures.keeps
    ∙ g.met.D.Source.sees c.hear.new.reader in
    rw inn (last_answered c.requires.fresh c.lines.invariant.0 (rw c.in_default.is at c.in_ok-thing.ensures.heard).0
    (sym c.has_begun.ensures ∙ c.if-has_begun.true) (rw out at c.in_ok-answer.ensures.ok.0) b)

pub returns-else-has_begun-clause-all : goal.returns-else-has_begun-clause-all
returns-else-has_begun-clause-all g c given first b =
    let out = sym (g.met.D.Sink.shows c.hear.new.reader) ∙ c.in_ok-thing.ensures.keeps
    ∙ g.met.D.Sink.shows c.lines.device in
    rw out (all_answered c.requires.fresh c.lines.invariant.0 (rw c.in_default.is at c.in_ok-thing.ensures.heard).0
    (sym c.has_begun.ensures ∙ c.if-has_begun.false) b)

pub returns-in_err-thing-clause-in_time : goal.returns-in_err-thing-clause-in_time
returns-in_err-thing-clause-in_time g c =
    let m : Log = g.D.Device.log c.hear.new.reader in
    talks_last m c.requires.fresh c.lines.invariant c.in_err-thing.ensures.heard.1 (gives_none m)

pub returns-in_err-respond-clause-in_time : goal.returns-in_err-respond-clause-in_time
returns-in_err-respond-clause-in_time g c =
    talks_last (g.D.Device.log c.respond.new.writer) c.requires.fresh c.lines.invariant
    (reads_open (rw c.in-Some.is at c.in_ok-thing.ensures.heard).1) c.in_err-respond.ensures.broken

pub returns-in_err-answer-clause-in_time : goal.returns-in_err-answer-clause-in_time
returns-in_err-answer-clause-in_time g c =
    talks_last (g.D.Device.log c.answer.new.writer) c.requires.fresh c.lines.invariant
    (rw c.in_default.is at c.in_ok-thing.ensures.heard).1 c.in_err-answer.ensures.broken

pub returns-in_ok-answer-clause-in_time : goal.returns-in_ok-answer-clause-in_time
returns-in_ok-answer-clause-in_time g c = talks_last (g.D.Device.log c.answer.new.writer)
    c.requires.fresh c.lines.invariant (rw c.in_default.is at c.in_ok-thing.ensures.heard).1 (inr (
      c.in_ok-answer.ensures.ok.0.lines,
      c.in_ok-answer.ensures.ok.1,
    ))

pub returns-else-has_begun-clause-in_time : goal.returns-else-has_begun-clause-in_time
returns-else-has_begun-clause-in_time g c =
    let m : Log = g.D.Device.log c.hear.new.reader in
    talks_last m c.requires.fresh c.lines.invariant (rw c.in_default.is at c.in_ok-thing.ensures.heard).1 (gives_none m)
