use Rattle.std.proofs.Common.{length, map}
use Rattle.format_arguments.specs.ArgumentViews.{argument_view}
use Rattle.format_arguments.proofs.TextLemmas.{HasRead}
use Rattle.python_format.specs.PythonPieces.{percent}
use Rattle.python_format.specs.PythonDirectives.{DirectiveAt, asks}
use Rattle.python_format.proofs.DirectiveLemmas.{are_directives}
use Rattle.python_format.proofs.format.signature.Given as goal

abbrev pub invariant-directives : goal.invariant-directives
invariant-directives l = HasRead percent DirectiveAt are_directives asks l.text l.rest (map argument_view l.asked.items)

abbrev pub decreases-directives : goal.decreases-directives
decreases-directives l = length l.rest
