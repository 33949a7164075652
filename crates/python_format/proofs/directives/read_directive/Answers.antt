use Rattle.std.proofs.Common.{sym, ◌∙◌}
use Rattle.python_format.proofs.DirectiveLemmas.{reach, ends, no_conversion}
use Rattle.python_format.proofs.directives.read_directive.Goals as goal

pub returns-in_err-conversion : goal.returns-in_err-conversion
returns-in_err-conversion c = rw c.from_residual-in_err-conversion.ensures (λ d more x.
    let r = reach d c.args.text.now more x _ _ c.in_ok-name.ensures _ _
    (rw c.skip_flags.ensures at c.read_amount-width.ensures) _ _ c.read_precision-precision.ensures in
    no_conversion d c.args.text.now more x _ r.3 (sym c.skip_modifier.ensures ∙ c.in_err-conversion.ensures))

pub returns-in_err-kind : goal.returns-in_err-kind
returns-in_err-kind c = rw c.from_residual-in_err-kind.ensures (λ d more x.
    let r = reach d c.args.text.now more x _ _ c.in_ok-name.ensures _ _
    (rw c.skip_flags.ensures at c.read_amount-width.ensures) _ _ c.read_precision-precision.ensures in
    let z = ends d c.args.text.now more x _ _ r.2 r.3 c.in_ok-conversion.conversion c.in_ok-conversion.rest.now
    (sym c.skip_modifier.ensures ∙ c.in_ok-conversion.ensures) in
    absurd (cc (z.0, c.in_err-kind.ensures)))
