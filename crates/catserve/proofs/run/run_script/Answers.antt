use Rattle.catserve.proofs.Common.{◌≡◌, refl, rules, Err, OutputSeen, output_seen}
use Rattle.catserve.proofs.Stopping.{run_fails}
use Rattle.catserve.proofs.run.run_script.Goals as goal

pub returns-in-Ok : goal.returns-in-Ok
returns-in-Ok g c = record {
  text = c.in_ok-text.text.items;
  read = c.in_ok-text.ensures.ok;
  output = c.in_ok-output.output.items;
  is = rw c.as_slice.ensures.value at c.in_ok-output.ensures.ok;
  written = rw c.as_slice-2.ensures.value at c.in-Ok.ensures.bytes;
}

pub returns-in_err-output : goal.returns-in_err-output
returns-in_err-output g c =
    let o : OutputSeen = output_seen g.W.Sink.contents g.W.Sink.failures c.args.writer.now in
    let f = c.in_err-output.field-0.0 in
    let is : c.from_residual-in_err-output.result ≡ Err f = search rules in
    rw is (run_fails o o f.kind f.line c.in_ok-text.ensures.ok
    (rw c.as_slice.ensures.value at c.in_err-output.ensures.fault) refl)
