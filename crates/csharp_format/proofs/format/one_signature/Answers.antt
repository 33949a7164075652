use Rattle.csharp_format.proofs.CSharpTextLemmas.{one_list}
use Rattle.csharp_format.proofs.format.one_signature.Goals as goal

pub returns : goal.returns
returns c = one_list
