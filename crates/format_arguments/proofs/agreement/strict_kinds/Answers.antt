use Rattle.format_arguments.proofs.AgreementLemmas.{strict_kinds}
use Rattle.format_arguments.proofs.agreement.strict_kinds.Goals as goal

pub returns : goal.returns
returns c = strict_kinds
