use Rattle.catserve.proofs.Common.{◌∙◌, ◌++◌, ◌∷◌, [], refl, ap, take, nil_from_length, err_from_is_err_and}
use Rattle.catserve.proofs.Common.{HearingValue}
use Rattle.catserve.proofs.SessionInTime.{ends_at, passed_last, passed_timely, passes_none}
use Rattle.catserve.proofs.SessionPreamble.{begins_ended, begins_given, begins_other, passed_more, preamble_fails}
use Rattle.catserve.proofs.SessionPreamble.{preamble_undecodable}
use Rattle.catserve.proofs.hearing.Hearing.hear_preamble.Goals as goal

pub returns-in_err-end-clause-fault : goal.returns-in_err-end-clause-fault
returns-in_err-end-clause-fault g c =
    let p = err_from_is_err_and c.from_residual.result c.from_residual.ensures.1 in
    rw (p.1, p.2) (preamble_fails c.next_end.new.self c.preamble.invariant.1.0 c.in_err-end.ensures.fault)

pub returns-in-NotUtf8-clause-fault : goal.returns-in-NotUtf8-clause-fault
returns-in-NotUtf8-clause-fault g c =
    let passed = c.preamble.invariant.1.0 in
    let found = rw c.in-Some.is at c.in_ok-end.ensures.found.line in
    let left = c.left.ensures ∙ ap (λ (x : HearingValue). x.input.left) c.self.view_is in
    let is = rw c.in-NotUtf8.is at (rw left at c.read_preamble_line.ensures) in
    rw c.fault_here.ensures (preamble_undecodable passed c.in_ok-end.ensures.found.stays found.0 is)

pub preamble-preserved : goal.preamble-preserved
preamble-preserved g c =
    let passed = c.preamble.invariant.1.0 in
    let found = rw c.in-Some.is at c.in_ok-end.ensures.found.line in
    let left = c.left.ensures ∙ ap (λ (x : HearingValue). x.input.left) c.self.view_is in
    let is = rw c.in-Blank.is at (rw left at c.read_preamble_line.ensures) in
    let front = c.preamble.invariant.0 in
    let line = take c.in-Some.end c.next_end.new.self.input.left in
    let timely = passed_timely c.preamble.invariant.1 c.in_ok-end.ensures.found.stays c.in_ok-end.ensures.waits in (
      front ++ line ∷ [],
      rw c.take.ensures (passed_more passed c.in_ok-end.ensures.found.stays found.0 is.0 is.1, timely),
      c.in_ok-end.ensures.keeps ∙ c.preamble.invariant.2,
    )

pub returns-in-Workers-clause-begins : goal.returns-in-Workers-clause-begins
returns-in-Workers-clause-begins g c =
    let passed = c.preamble.invariant.1.0 in
    let found = rw c.in-Some.is at c.in_ok-end.ensures.found.line in
    let left = c.left.ensures ∙ ap (λ (x : HearingValue). x.input.left) c.self.view_is in
    let is = rw c.in-Workers.is at (rw left at c.read_preamble_line.ensures) in
    let timely = passed_timely c.preamble.invariant.1 c.in_ok-end.ensures.found.stays c.in_ok-end.ensures.waits in
    rw c.take-in-Workers.ensures (begins_given passed c.in_ok-end.ensures.found.stays found.0 is.0 is.1 is.2, timely)

pub returns-in-Other-clause-begins : goal.returns-in-Other-clause-begins
returns-in-Other-clause-begins g c =
    let passed = c.preamble.invariant.1.0 in
    let found = rw c.in-Some.is at c.in_ok-end.ensures.found.line in
    let left = c.left.ensures ∙ ap (λ (x : HearingValue). x.input.left) c.self.view_is in
    let is = rw c.in-Other.is at (rw left at c.read_preamble_line.ensures) in
    let timely = passed_timely c.preamble.invariant.1 c.in_ok-end.ensures.found.stays c.in_ok-end.ensures.waits in
    (begins_other passed c.in_ok-end.ensures.found.stays found.0 is.1 is.2, timely)

pub returns-clause-begins : goal.returns-clause-begins
returns-clause-begins g c =
    let found = c.in_ok-end.ensures.found in
    let none = rw c.in_default.is at found.none in
    let timely = passed_timely c.preamble.invariant.1 c.in_ok-end.ensures.found.stays c.in_ok-end.ensures.waits in (
      begins_ended c.preamble.invariant.1.0 found.stays (nil_from_length c.next_end.new.self.input.left none.1) none.0,
      timely,
    )

pub returns-in_err-end-clause-in_time : goal.returns-in_err-end-clause-in_time
returns-in_err-end-clause-in_time g c =
    let p = err_from_is_err_and c.from_residual.result c.from_residual.ensures.1 in
    rw (p.1) (passed_last c.preamble.invariant.1 c.in_err-end.ensures.waits.1)

pub returns-in-NotUtf8-clause-in_time : goal.returns-in-NotUtf8-clause-in_time
returns-in-NotUtf8-clause-in_time g c =
    ends_at (passed_timely c.preamble.invariant.1 c.in_ok-end.ensures.found.stays c.in_ok-end.ensures.waits)

pub preamble-init : goal.preamble-init
preamble-init g c = ([], rw c.requires (passes_none), refl)
