use Rattle.lisp_formats.specs.LispDirectives.{view}
use Rattle.lisp_formats.proofs.LispDirectiveLemmas.{read_is_ok}
use Rattle.lisp_formats.proofs.directives.read_directive.Goals as goal

pub returns : goal.returns
returns c =
    let are = rw c.in-Some.is at c.in_ok-parameters.ensures in
    read_is_ok c.args.notation c.args.text.now c.in-Some.rest.now c.in-Some.parameters.items
    (λ found. (view found.0, found.1.now)) c.read_back.result are (rw c.deref.ensures.value at c.read_back.ensures)
