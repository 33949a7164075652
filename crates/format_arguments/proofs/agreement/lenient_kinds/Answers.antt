use Rattle.format_arguments.proofs.AgreementLemmas.{lenient_kinds, lenient_names}
use Rattle.format_arguments.proofs.agreement.lenient_kinds.Goals as goal

pub returns : goal.returns
returns c = record { names = lenient_names; kinds = lenient_kinds }
