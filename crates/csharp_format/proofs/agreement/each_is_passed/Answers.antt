use Rattle.csharp_format.proofs.CSharpAgreementLemmas.{each_passed}
use Rattle.csharp_format.proofs.agreement.each_is_passed.Goals as goal

pub returns : goal.returns
returns c = each_passed
