use Rattle.lisp_formats.proofs.LispAgreementLemmas.{same_exactly}
use Rattle.lisp_formats.proofs.agreement.same_lists.Goals as goal

pub returns : goal.returns
returns c = same_exactly
