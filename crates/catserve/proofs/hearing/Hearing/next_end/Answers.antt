use Rattle.catserve.proofs.Common.{[], refl, arith, StillWaits, HearingValue}
use Rattle.devices.proofs.Waitings.{waits_none}
use Rattle.catserve.proofs.LinesTaken.{found_so, nothing_heard, stays_whole}
use Rattle.catserve.proofs.hearing.Hearing.next_end.Goals as goal

pub returns-in-Err-clause-fault : goal.returns-in-Err-clause-fault
returns-in-Err-clause-fault g c =
    let here : HearingValue = record
    { input = c.self.inside.input; number = c.self.inside.number; size = c.self.inside.size } in
    let after : HearingValue = record
    { input = c.line_end.new.self; number = c.self.inside.number; size = c.self.inside.size } in
    rw (← c.self.view_is) (nothing_heard here after c.in-Err.fault c.fault_of.result c.in-Err.ensures.comes
    (record { later = c.in-Err.ensures.later; reads = c.in-Err.ensures.reads }) refl refl
    (λ long. omega (arith, (c.in-Err.ensures.long long).0, c.self.invariant)) c.in-Err.ensures.cause c.fault_of.ensures)

pub returns-in-Ok-clause-found : goal.returns-in-Ok-clause-found
returns-in-Ok-clause-found g c =
    let known = c.in-Ok.ensures in
    rw (← c.self.view_is) (found_so c.in-Ok.end
    (stays_whole known.comes (record { later = known.later; reads = known.reads }) refl refl)
    c.if-self-ge-MOST_LINES.false c.self.invariant known.line known.within known.none)

pub returns-then-self-ge-MOST_LINES-clause-waits : goal.returns-then-self-ge-MOST_LINES-clause-waits
returns-then-self-ge-MOST_LINES-clause-waits g c = (
  [],
  waits_none (g.R.Device.log c.args.reader.now) c.args.self.now.input (StillWaits c.args.self.now.input 0),
)
