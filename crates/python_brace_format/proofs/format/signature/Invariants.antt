use Rattle.std.proofs.Common.{length, map}
use Rattle.format_arguments.specs.ArgumentViews.{argument_view}
use Rattle.format_arguments.proofs.TextLemmas.{HasRead}
use Rattle.python_brace_format.specs.BraceSpecifiers.{open_brace}
use Rattle.python_brace_format.specs.BraceDirectives.{DirectiveAt, asks}
use Rattle.python_brace_format.proofs.DirectiveLemmas.{are_directives}
use Rattle.python_brace_format.proofs.format.signature.Given as goal

abbrev pub invariant-directives : goal.invariant-directives
invariant-directives l =
    HasRead open_brace DirectiveAt are_directives asks l.text l.rest (map argument_view l.asked.items)

abbrev pub decreases-directives : goal.decreases-directives
decreases-directives l = length l.rest
