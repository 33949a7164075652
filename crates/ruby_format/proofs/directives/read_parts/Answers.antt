use Rattle.std.proofs.Common.{suc, sym}
use Rattle.ruby_format.specs.RubyDirectives.{blank}
use Rattle.ruby_format.specs.RubyScanning.{directive_view, part_view}
use Rattle.ruby_format.proofs.RubyPartLemmas.{part_shorter}
use Rattle.ruby_format.proofs.RubyDirectiveLemmas.{no_part, parts_more}
use Rattle.ruby_format.proofs.directives.read_parts.Goals as goal

pub returns-in_err-directive : goal.returns-in_err-directive
returns-in_err-directive c = rw c.from_residual.ensures (no_part c.parts.invariant.0 (directive_view c.parts.directive)
    c.args.text.now c.parts.rest.now c.parts.invariant.1 (part_view c.in-Some.part) c.in-Some.after.now
    (sym c.in-Some.ensures) (sym c.in_err-directive.ensures))

pub parts-smaller : goal.parts-smaller
parts-smaller c =
    part_shorter c.parts.rest.now (part_view c.in-Some.part) c.in-Some.after.now (sym c.in-Some.ensures)

pub parts-preserved : goal.parts-preserved
parts-preserved c = (
  suc c.parts.invariant.0,
  parts_more c.parts.invariant.0 blank (directive_view c.parts.directive)
      (directive_view c.in_ok-directive.directive) c.args.text.now c.parts.rest.now c.in-Some.after.now
      (part_view c.in-Some.part) c.parts.invariant.1 (sym c.in-Some.ensures) (sym c.in_ok-directive.ensures),
)
