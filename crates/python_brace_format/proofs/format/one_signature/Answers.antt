use Rattle.format_arguments.proofs.TextLemmas.{one_signature}
use Rattle.python_brace_format.specs.BraceSpecifiers.{open_brace}
use Rattle.python_brace_format.specs.BraceDirectives.{DirectiveAt, asks}
use Rattle.python_brace_format.proofs.DirectiveLemmas.{are_directives}
use Rattle.python_brace_format.proofs.format.one_signature.Goals as goal

pub returns : goal.returns
returns c = one_signature open_brace DirectiveAt are_directives asks
