use Rattle.format_arguments.proofs.TextLemmas.{one_signature}
use Rattle.python_brace_format.specs.BraceDirectives.{asks}
use Rattle.named_formats.specs.NameDirectives.{mark, DirectiveAt}
use Rattle.named_formats.proofs.NameDirectiveLemmas.{are_directives}
use Rattle.named_formats.proofs.format.one_signature.Goals as goal

pub returns : goal.returns
returns c = λ notation. one_signature (mark notation) (DirectiveAt notation) (are_directives notation) asks
