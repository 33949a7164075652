use Rattle.std.proofs.Common.{length}
use Rattle.numbered_arguments.specs.NumberedArguments.{list_of}
use Rattle.numbered_arguments.proofs.NumberedTextLemmas.{HasCounted}
use Rattle.php_format.specs.PhpPieces.{percent}
use Rattle.php_format.specs.PhpDirectives.{DirectiveAt}
use Rattle.php_format.proofs.PhpDirectiveLemmas.{are_directives}
use Rattle.php_format.proofs.format.signature.Given as goal

abbrev pub invariant-directives : goal.invariant-directives
invariant-directives l = HasCounted percent DirectiveAt are_directives list_of l.text l.rest l.numbering

abbrev pub decreases-directives : goal.decreases-directives
decreases-directives l = length l.rest
