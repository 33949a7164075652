use Rattle.std.proofs.Common.{refl}
use Rattle.po_checks.specs.Checks.{HasOtherArguments, HasSystemDependentText}
use Rattle.po_checks.proofs.Checking.{line_more}
use Rattle.po_checks.proofs.findings.Findings.look_at_formats.Goals as goal

pub returns-clause-ok : goal.returns-clause-ok
returns-clause-ok c = record {
  dependent = line_more HasSystemDependentText c.args.entry.now c.args.self.now.system_dependent
      c.first_line-self.result c.in_ok-faults.faults.system_dependent c.line-line.result
      c.in_ok-faults.ensures.dependent c.line-line.ensures c.first_line-self.ensures;
  mismatch = line_more HasOtherArguments c.args.entry.now c.args.self.now.mismatch c.first_line-self-2.result
      c.in_ok-faults.faults.mismatch c.line-line.result c.in_ok-faults.ensures.mismatch c.line-line.ensures
      c.first_line-self-2.ensures;
  newlines = refl;
  plurals = refl;
}
