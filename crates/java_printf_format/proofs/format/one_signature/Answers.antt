use Rattle.java_printf_format.proofs.PrintfTextLemmas.{one_list}
use Rattle.java_printf_format.proofs.format.one_signature.Goals as goal

pub returns : goal.returns
returns c = one_list
