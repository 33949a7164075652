use Rattle.std.proofs.Common.{length, map}
use Rattle.format_arguments.specs.ArgumentViews.{argument_view}
use Rattle.format_arguments.proofs.TextLemmas.{HasRead}
use Rattle.python_brace_format.specs.BraceDirectives.{asks}
use Rattle.named_formats.specs.NameDirectives.{mark, DirectiveAt}
use Rattle.named_formats.proofs.NameDirectiveLemmas.{are_directives}
use Rattle.named_formats.proofs.format.signature.Given as goal

abbrev pub invariant-directives : goal.invariant-directives
invariant-directives l = HasRead (mark l.notation) (DirectiveAt l.notation) (are_directives l.notation) asks l.text
    l.rest (map argument_view l.asked.items)

abbrev pub decreases-directives : goal.decreases-directives
decreases-directives l = length l.rest
