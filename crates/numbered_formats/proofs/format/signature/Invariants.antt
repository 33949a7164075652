use Rattle.std.proofs.Common.{length}
use Rattle.numbered_arguments.specs.NumberedArguments.{list_of}
use Rattle.numbered_arguments.proofs.NumberedTextLemmas.{HasCounted}
use Rattle.numbered_formats.specs.NumberDirectives.{percent, DirectiveAt}
use Rattle.numbered_formats.proofs.NumberDirectiveLemmas.{are_directives}
use Rattle.numbered_formats.proofs.format.signature.Given as goal

abbrev pub invariant-directives : goal.invariant-directives
invariant-directives l =
    HasCounted percent (DirectiveAt l.notation) (are_directives l.notation) list_of l.text l.rest l.numbering

abbrev pub decreases-directives : goal.decreases-directives
decreases-directives l = length l.rest
