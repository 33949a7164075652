use Rattle.catserve.proofs.Common.{◌∙◌, ap, InputSeen, input_seen, HearingValue, line_of_kind}
use Rattle.catserve.proofs.LinesTaken.{no_line}
use Rattle.catserve.proofs.SessionHears.{hears_none, none_then}
use Rattle.catserve.proofs.SessionInTime.{end_heard, in_time_then}
use Rattle.catserve.proofs.SessionWaits.{open_line}
use Rattle.catserve.proofs.hearing.Hearing.hear.Goals as goal

pub returns-in-Err-clause-heard : goal.returns-in-Err-clause-heard
returns-in-Err-clause-heard g c =
    let i : InputSeen = input_seen g.R.Source.remaining g.R.Source.reads g.R.Source.failures c.args.reader.now in
    let j : InputSeen = input_seen g.R.Source.remaining g.R.Source.reads g.R.Source.failures c.next_end.new.reader in
    let waits = c.in-Err.ensures.waits in (
      no_line _ i j c.args.self.now c.next_end.new.self c.in-Err.fault.kind c.in-Err.fault.line c.in-Err.ensures.fault,
      open_line waits.1,
    )

pub returns-in_default-clause-heard : goal.returns-in_default-clause-heard
returns-in_default-clause-heard g c =
    let found = c.in-Ok.ensures.found in
    end_heard found.stays (rw c.in_default.is at found.none) c.in-Ok.ensures.waits

pub returns-in-Ok-read_said-clause-heard : goal.returns-in-Ok-read_said-clause-heard
returns-in-Ok-read_said-clause-heard g c =
    let k : InputSeen = input_seen g.R.Source.remaining g.R.Source.reads g.R.Source.failures c.hear_said.new.reader in
    let left = c.left.ensures ∙ ap (λ (x : HearingValue). x.input.left) c.self.view_is in
    in_time_then k (g.R.Device.log c.hear_said.new.reader) c.args.workers c.hear_said.new.self c.hear_said.result
    c.in-Ok.ensures.found.stays c.in-Ok.ensures.waits (c.hear_said.ensures.heard c.args.workers
    (rw left at c.in-Ok-read_said.ensures.ok))

pub returns-in-Err-read_said-clause-heard : goal.returns-in-Err-read_said-clause-heard
returns-in-Err-read_said-clause-heard g c =
    let j : InputSeen = input_seen g.R.Source.remaining g.R.Source.reads g.R.Source.failures c.next_end.new.reader in
    let left = c.left.ensures ∙ ap (λ (x : HearingValue). x.input.left) c.self.view_is in
    let ends = (rw c.in-Some.is at c.in-Ok.ensures.found.line).0 in
    let y = c.next_end.new.self in
    let kind = c.in-Err-read_said.kind in
    rw c.fault_here.ensures (
      none_then j c.args.workers y kind (line_of_kind kind y.number) c.in-Ok.ensures.found.stays
          (hears_none j c.args.workers y kind ends (rw left at c.in-Err-read_said.ensures.fault)),
      open_line c.in-Ok.ensures.waits,
    )
