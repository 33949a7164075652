use Rattle.std.proofs.Common.{◌≡◌}
use Rattle.msgfmt_steps.proofs.steps.warn.Given as goal

abbrev pub invariant-fields : goal.invariant-fields
invariant-fields g l = g.E.Sink.failures l.errors ≡ g.E.Sink.failures l.fn.errors
