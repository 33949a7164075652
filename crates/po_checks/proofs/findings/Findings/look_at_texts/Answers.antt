use Rattle.std.proofs.Common.{refl}
use Rattle.po_checks.specs.Checks.{HasOtherNewlines}
use Rattle.po_checks.proofs.Checking.{line_more}
use Rattle.po_checks.proofs.findings.Findings.look_at_texts.Goals as goal

pub returns : goal.returns
returns c = record {
  newlines = line_more HasOtherNewlines c.args.entry.now c.args.self.now.newlines c.first_line-self.result
      c.newlines_differ.result c.line.result c.newlines_differ.ensures c.line.ensures c.first_line-self.ensures;
  plurals = c.look_at.ensures;
  dependent = refl;
  mismatch = refl;
}
