use Rattle.catserve.proofs.Common.{InputSeen, input_seen}
use Rattle.script_text.specs.LineValues.{line_value}
use Rattle.catserve.proofs.SessionWaits.{open_text}
use Rattle.catserve.proofs.SessionInTime.{said_heard}
use Rattle.catserve.proofs.SessionHears.{none_text}
use Rattle.catserve.proofs.hearing.Hearing.hear_said.Goals as goal

pub returns-clause-heard : goal.returns-clause-heard
returns-clause-heard g c workers is =
    rw c.end_round.ensures (said_heard (line_value c.args.line) c.requires.few c.requires.line is
    (rw c.text_lines.ensures at c.in-Ok.ensures.heard) (rw c.text_lines.ensures at c.in-Ok.ensures.waits))

pub returns-in-Err-clause-heard : goal.returns-in-Err-clause-heard
returns-in-Err-clause-heard g c workers is =
    let i : InputSeen = input_seen g.R.Source.remaining g.R.Source.reads g.R.Source.failures c.args.reader.now in
    let j : InputSeen = input_seen g.R.Source.remaining g.R.Source.reads g.R.Source.failures c.hear_text.new.reader in
    let line = line_value c.args.line in
    let fault = c.in-Err.fault in (
      none_text i j workers c.args.self.now c.hear_text.new.self line fault.kind fault.line c.requires.line is
          (rw c.text_lines.ensures at c.in-Err.ensures.fault),
      open_text line c.requires.line is (rw c.text_lines.ensures at c.in-Err.ensures.waited),
    )
