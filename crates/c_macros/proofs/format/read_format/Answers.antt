use Rattle.std.proofs.lemmas.Result.{err_from_is_err_and}
use Rattle.c_macros.proofs.ReadingLemmas.{lists_none}
use Rattle.c_macros.proofs.format.read_format.Goals as goal

pub returns-in_err-kinds-clause-err : goal.returns-in_err-kinds-clause-err
returns-in_err-kinds-clause-err c =
    let p = err_from_is_err_and c.from_residual-in_err-kinds.result c.from_residual-in_err-kinds.ensures.1 in
    rw (p.1, p.2) (lists_none c.args.text.now c.in_ok-asked.asked.items c.in_ok-asked.parts.items
    c.in_err-kinds.field-0.0 (rw c.as_bytes.ensures.value at c.in_ok-asked.ensures.ok) c.in_err-kinds.ensures.err)
