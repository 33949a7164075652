use Rattle.any_charset.proofs.Failing.{refused_plain}
use Rattle.dependent_po.specs.MacroMeaning.{Refuses}
use Rattle.dependent_files.proofs.any.compile_dependent_any.Goals as goal

pub returns-in-Err-2-clause-err : goal.returns-in-Err-2-clause-err
returns-in-Err-2-clause-err c = refused_plain Refuses c.args.text.now c.args.options c.in-Err.fault
    (λ is. let e = c.is_for_charset.ensures.1 is in absurd (cc (e, c.if-is_for_charset.false))) c.in-Err.ensures.err
