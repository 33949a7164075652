use Rattle.std.proofs.Common.{inl}
use Rattle.python_brace_format.proofs.ReaderLemmas.{match_also, no_specifier}
use Rattle.python_brace_format.proofs.specifiers.after_specifier.Goals as goal

pub returns-in-Some : goal.returns-in-Some
returns-in-Some c = match_also c.after_nested.result _ _ _ _ c.after_nested.ensures
    (no_specifier c.args.text.now c.in-Some.inner.now c.in-Some.ensures)
    (λ rest x. inl (c.in-Some.inner.now, c.in-Some.ensures, x))
