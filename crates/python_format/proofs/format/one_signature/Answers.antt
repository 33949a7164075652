use Rattle.format_arguments.proofs.TextLemmas.{one_signature}
use Rattle.python_format.specs.PythonPieces.{percent}
use Rattle.python_format.specs.PythonDirectives.{DirectiveAt, asks}
use Rattle.python_format.proofs.DirectiveLemmas.{are_directives}
use Rattle.python_format.proofs.format.one_signature.Goals as goal

pub returns : goal.returns
returns c = one_signature percent DirectiveAt are_directives asks
