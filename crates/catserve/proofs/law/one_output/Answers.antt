use Rattle.catserve.proofs.OneOutput.{output_one}
use Rattle.catserve.proofs.SomeOutput.{output_some}
use Rattle.catserve.proofs.law.one_output.Goals as goal

pub returns-clause-one : goal.returns-clause-one
returns-clause-one c = output_one

pub returns-clause-some : goal.returns-clause-some
returns-clause-some c = output_some
