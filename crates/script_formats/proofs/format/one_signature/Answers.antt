use Rattle.numbered_arguments.proofs.NumberedTextLemmas.{one_list}
use Rattle.script_formats.specs.ScriptDirectives.{percent, DirectiveAt}
use Rattle.script_formats.specs.Collecting.{asks}
use Rattle.script_formats.specs.ScriptFormat.{fits}
use Rattle.script_formats.proofs.ScriptDirectiveLemmas.{are_directives}
use Rattle.script_formats.proofs.format.one_signature.Goals as goal

pub returns : goal.returns
returns c = λ notation. one_list percent (DirectiveAt notation) (are_directives notation) asks (fits notation)
