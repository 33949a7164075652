use Rattle.numbered_arguments.specs.NumberedArguments.{list_of}
use Rattle.numbered_arguments.proofs.NumberedTextLemmas.{one_list}
use Rattle.numbered_formats.specs.NumberDirectives.{percent, DirectiveAt}
use Rattle.numbered_formats.specs.NumberFormat.{fits}
use Rattle.numbered_formats.proofs.NumberDirectiveLemmas.{are_directives}
use Rattle.numbered_formats.proofs.format.one_signature.Goals as goal

pub returns : goal.returns
returns c = λ notation. one_list percent (DirectiveAt notation) (are_directives notation) list_of (fits notation)
