use Rattle.std.proofs.Common.{refl, sym, ◌∙◌}
use Rattle.std.proofs.lemmas.Bool.{false≢true}
use Rattle.po_checks.proofs.Checking.{line_more}
use Rattle.dependent_po.specs.Formats.{HasOtherArguments}
use Rattle.dependent_po.proofs.gathered.Gathered.add_kept.Goals as goal

pub returns-in_ok-differs : goal.returns-in_ok-differs
returns-in_ok-differs c = record {
  messages = c.in_ok-add.ensures;
  mismatch = λ checked. line_more HasOtherArguments c.args.entry.now c.args.self.now.mismatch c.first_line-self.result
      c.in_ok-differs.differs c.line.result c.in_ok-differs.ensures c.line.ensures c.first_line-self.ensures;
  findings = refl;
  standings = refl;
  header = refl;
}

pub returns-else-options : goal.returns-else-options
returns-else-options c = record {
  messages = c.in_ok-add.ensures;
  mismatch = λ checked. absurd (false≢true (sym c.if-options.false ∙ checked));
  findings = refl;
  standings = refl;
  header = refl;
}
