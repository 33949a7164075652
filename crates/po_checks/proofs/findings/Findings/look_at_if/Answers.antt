use Rattle.std.proofs.Common.{sym, ◌∙◌}
use Rattle.po_checks.proofs.Checking.{found_all, found_formats}
use Rattle.po_checks.proofs.findings.Findings.look_at_if.Goals as goal

pub returns-then-options-clause-ok : goal.returns-then-options-clause-ok
returns-then-options-clause-ok c = λ entries h.
    found_all c.args.options entries c.args.entry.now c.args.self.now c.look_at_formats.new.self
    c.look_at_texts.new.self (sym c.requires ∙ c.if-not-is_kept.false) c.in_ok-look_at_formats.ensures.ok
    c.look_at_texts.ensures h

pub returns-else-options-clause-ok : goal.returns-else-options-clause-ok
returns-else-options-clause-ok c = λ entries h.
    found_formats c.args.options entries c.args.entry.now c.args.self.now c.look_at_formats.new.self
    (sym c.requires ∙ c.if-not-is_kept.false) c.if-options.false c.in_ok-look_at_formats.ensures.ok h
