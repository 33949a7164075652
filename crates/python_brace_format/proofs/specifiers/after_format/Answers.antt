use Rattle.std.proofs.Common.{inl}
use Rattle.python_brace_format.proofs.ReaderLemmas.{match_also, no_format}
use Rattle.python_brace_format.proofs.specifiers.after_format.Goals as goal

pub returns-in-Some : goal.returns-in-Some
returns-in-Some c = match_also c.after_specifier.result _ _ _ _ c.after_specifier.ensures
    (no_format c.args.text.now c.in-Some.rest.now c.in-Some.ensures)
    (λ rest x. inl (c.in-Some.rest.now, c.in-Some.ensures, x))
