use Rattle.std.proofs.Common.{sym}
use Rattle.ruby_format.specs.RubyScanning.{directive_view, ending_view}
use Rattle.ruby_format.proofs.RubyDirectiveLemmas.{no_ending, no_whole}
use Rattle.ruby_format.proofs.directives.read_directive.Goals as goal

pub returns-in_err-ending : goal.returns-in_err-ending
returns-in_err-ending c = rw c.from_residual-in_err-ending.ensures (no_ending
    (directive_view c.in_ok-directive.directive) c.args.text.now c.in_ok-directive.rest.now c.in_ok-directive.ensures
    (sym c.in_err-ending.ensures))

pub returns-in_err-whole : goal.returns-in_err-whole
returns-in_err-whole c = rw c.from_residual-in_err-whole.ensures (no_whole
    (directive_view c.in_ok-directive.directive) c.args.text.now c.in_ok-directive.rest.now c.in_ok-directive.ensures
    (ending_view c.in_ok-ending.ending) c.in_ok-ending.behind.now (sym c.in_ok-ending.ensures)
    (sym c.in_err-whole.ensures))
