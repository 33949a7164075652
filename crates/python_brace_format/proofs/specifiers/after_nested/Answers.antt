use Rattle.std.proofs.Common.{List, ℕ, inr, subst}
use Rattle.python_brace_format.specs.BraceFields.{FieldAt}
use Rattle.python_brace_format.proofs.ReaderLemmas.{match_also, no_nested, not_closed}
use Rattle.python_brace_format.proofs.specifiers.after_nested.Goals as goal

pub returns-in_err-closing : goal.returns-in_err-closing
returns-in_err-closing c =
    rw c.from_residual.ensures (no_nested c.args.text.now c.in_default.ensures c.in_err-closing.ensures)

pub returns : goal.returns
returns c = match_also c.after_byte-2.result _ _ _ _ c.after_byte-2.ensures
    (not_closed c.args.text.now c.in_ok-closing.closing.now c.in_default.ensures c.in_ok-closing.ensures)
    (λ rest e. inr (subst (λ (t : List ℕ). FieldAt c.args.text.now t) e c.in_ok-closing.ensures))
