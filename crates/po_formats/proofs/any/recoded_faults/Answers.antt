use Rattle.std.proofs.Common.{ℕ, List, subst, sym}
use Rattle.any_charset.specs.Recoding.{IsRecoded}
use Rattle.any_charset.proofs.Failing.{refused_recoded}
use Rattle.po_formats.specs.PlainFaults.{Refuses}
use Rattle.po_formats.proofs.any.recoded_faults.Goals as goal

pub returns-clause-err : goal.returns-clause-err
returns-clause-err c =
    let text = c.args.text.now in
    let strict = c.args.strict in
    refused_recoded Refuses text c.args.options c.as_slice.result.now c.in-Err-plain_faults.fault
    (strict.kind, strict.line, c.requires.1, c.requires.0)
    (subst (λ (x : List ℕ). IsRecoded text x) (sym c.as_slice.ensures.value)
    (rw c.in-Ok-Some.field-0-is at c.in-Ok-Some.ensures.ok))
    c.in-Err-plain_faults.ensures.err
