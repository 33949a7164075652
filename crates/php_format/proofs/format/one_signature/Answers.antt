use Rattle.numbered_arguments.specs.NumberedArguments.{list_of}
use Rattle.numbered_arguments.proofs.NumberedTextLemmas.{one_list}
use Rattle.php_format.specs.PhpPieces.{percent}
use Rattle.php_format.specs.PhpDirectives.{DirectiveAt}
use Rattle.php_format.specs.PhpFormat.{fits}
use Rattle.php_format.proofs.PhpDirectiveLemmas.{are_directives}
use Rattle.php_format.proofs.format.one_signature.Goals as goal

pub returns : goal.returns
returns c = one_list percent DirectiveAt are_directives list_of fits
