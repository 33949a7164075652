use Rattle.std.proofs.Common.{sym}
use Rattle.c_macros.proofs.MacroLemmas.{macro_reads, macro_from}
use Rattle.c_macros.proofs.macros.read_name.Goals as goal

pub returns-in_err-rest : goal.returns-in_err-rest
returns-in_err-rest c = rw c.from_residual-in_err-rest.ensures (λ kind rest x.
    c.in_err-rest.ensures rest (macro_reads c.args.text.now c.in_ok-conversion.behind.now c.split_name.result.0.now
    c.split_name.result.1.now rest c.in_ok-conversion.conversion kind c.in_ok-conversion.ensures
    c.split_name.ensures x).1)

pub returns-in_err-kind : goal.returns-in_err-kind
returns-in_err-kind c = rw c.from_residual-in_err-kind.ensures (λ kind rest x.
    let known = (macro_reads c.args.text.now c.in_ok-conversion.behind.now c.split_name.result.0.now
    c.split_name.result.1.now rest c.in_ok-conversion.conversion kind c.in_ok-conversion.ensures
    c.split_name.ensures x).2 in
    cc (c.in_err-kind.ensures, known))

pub returns : goal.returns
returns c = macro_from c.args.text.now c.in_ok-conversion.behind.now c.split_name.result.0.now
    c.split_name.result.1.now c.in_ok-rest.rest.now c.in_ok-conversion.conversion c.in_ok-kind.kind
    c.in_ok-conversion.ensures c.split_name.ensures c.in_ok-rest.ensures (sym c.if-not-has_macros.ensures)
    (sym c.in_ok-kind.ensures)
