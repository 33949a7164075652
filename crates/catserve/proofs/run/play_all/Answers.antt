use Rattle.catserve.proofs.Common.{◌≡◌, ◌∙◌, refl, sym, ap, length, arith, rules, length-append, Err, into_iter_items}
use Rattle.catserve.proofs.Common.{OutputSeen, output_seen}
use Rattle.catserve.proofs.Questions.{cuts_short}
use Rattle.catserve.proofs.ScriptTalk.{comes_more, comes_none, plays_idle, plays_last, room_for}
use Rattle.catserve.proofs.Turns.{takes_one, takes_all}
use Rattle.catserve.proofs.run.play_all.Goals as goal

pub lines-init : goal.lines-init
lines-init g c = record { taken = record { whole = refl; count_is = search rules }; come = comes_none c.requires }

pub respond-requires-clause-room : goal.respond-requires-clause-room
respond-requires-clause-room g c κs within =
    let at = c.lines in
    room_for at.invariant.come c.requires (omega (
      arith,
      c.args.lines.small,
      c.args.lines.ok,
      ap length c.into_iter-said-iterator.ensures.into_iter_gives.0,
      ap length at.invariant.taken.whole,
      length-append at.yielded (into_iter_items at.said-iterator),
    ))

pub lines-preserved : goal.lines-preserved
lines-preserved g c =
    let at = c.lines in
    let x = c.in-Some.said in
    let o : OutputSeen = output_seen g.W.Sink.contents g.W.Sink.failures at.writer in
    let o' : OutputSeen = output_seen g.W.Sink.contents g.W.Sink.failures c.respond.new.writer in
    let bytes = c.in_ok-text.ensures.items_if_clones_equal (λ x y e. e) in
    record {
      taken = takes_one x at.invariant.taken c.in-Some.ensures.steps.0 (omega (arith, c.in-Some.ensures.steps.1));
      come = comes_more o o' (g.W.Device.log at.writer) (g.W.Device.log c.respond.new.writer) x at.invariant.come
          (rw c.said.view_is at (rw bytes at c.in_ok-respond.ensures.ok));
    }

pub returns-in_err-respond-clause-fault : goal.returns-in_err-respond-clause-fault
returns-in_err-respond-clause-fault g c =
    let at = c.lines in
    let o : OutputSeen = output_seen g.W.Sink.contents g.W.Sink.failures at.writer in
    let o' : OutputSeen = output_seen g.W.Sink.contents g.W.Sink.failures c.respond.new.writer in
    let why = c.in_err-respond.field-0.0 in
    let is : c.from_residual-in_err-respond.result ≡ Err why = search rules in
    rw is (cuts_short at.player c.respond.new.self o o' at.yielded (into_iter_items at.said-iterator) c.args.lines.items
    why at.invariant.come.talked.asked
    (at.invariant.taken.whole ∙ c.into_iter-said-iterator.ensures.into_iter_gives.0) c.in_err-respond.ensures.fault)

pub returns-in_err-answer-clause-fault : goal.returns-in_err-answer-clause-fault
returns-in_err-answer-clause-fault g c =
    let at = c.lines in
    let o : OutputSeen = output_seen g.W.Sink.contents g.W.Sink.failures at.writer in
    let o' : OutputSeen = output_seen g.W.Sink.contents g.W.Sink.failures c.answer.new.writer in
    let why = c.in_err-answer.field-0.0 in
    let is : c.from_residual-in_err-answer.result ≡ Err why = search rules in
    rw is (cuts_short at.player c.answer.new.self o o' at.yielded (into_iter_items at.said-iterator) c.args.lines.items
    why at.invariant.come.talked.asked
    (at.invariant.taken.whole ∙ c.into_iter-said-iterator.ensures.into_iter_gives.0) c.in_err-answer.ensures.fault)

pub returns-in_ok-answer-clause-ok : goal.returns-in_ok-answer-clause-ok
returns-in_ok-answer-clause-ok g c =
    let all = takes_all c.lines.invariant.taken c.in-None.ensures.steps.0
    ∙ c.into_iter-said-iterator.ensures.into_iter_gives.0 in
    rw all at (plays_last c.lines.invariant.come c.requires (sym c.has_begun.ensures ∙ c.if-has_begun.true)
    c.in_ok-answer.ensures.ok.0)

pub returns-else-has_begun-clause-ok : goal.returns-else-has_begun-clause-ok
returns-else-has_begun-clause-ok g c =
    let all = takes_all c.lines.invariant.taken c.in-None.ensures.steps.0
    ∙ c.into_iter-said-iterator.ensures.into_iter_gives.0 in
    rw all at (plays_idle c.lines.invariant.come c.requires (sym c.has_begun.ensures ∙ c.if-has_begun.false))
