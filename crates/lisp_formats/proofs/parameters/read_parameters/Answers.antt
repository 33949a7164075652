use Rattle.std.proofs.Common.{sym}
use Rattle.lisp_formats.proofs.LispParameterLemmas.{no_parameter, step_smaller, reads_parameter}
use Rattle.lisp_formats.proofs.parameters.read_parameters.Goals as goal

pub returns-in_default : goal.returns-in_default
returns-in_default c = no_parameter c.args.text.now c.parameters.rest.now c.parameters.parameters.items
    c.parameters.invariant c.in_default.ensures

pub parameters-smaller : goal.parameters-smaller
parameters-smaller c = step_smaller c.parameters.rest.now c.in-Some.after.now c.in-Some-after_byte.more.now
    c.in-Some.parameter (sym c.in-Some.ensures) c.in-Some-after_byte.ensures

pub parameters-preserved : goal.parameters-preserved
parameters-preserved c = reads_parameter c.args.text.now c.parameters.rest.now c.in-Some.after.now
    c.in-Some-after_byte.more.now c.in-Some.parameter c.parameters.parameters.items c.push.new.self.items
    c.parameters.invariant (sym c.in-Some.ensures) c.in-Some-after_byte.ensures c.in_ok-push.ensures.items
