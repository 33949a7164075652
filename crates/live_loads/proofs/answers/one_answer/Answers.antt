use Rattle.live_loads.proofs.OneAnswer.{texts_one, files_one}
use Rattle.live_loads.proofs.answers.one_answer.Goals as goal

pub returns-clause-texts : goal.returns-clause-texts
returns-clause-texts c = texts_one

pub returns-clause-files : goal.returns-clause-files
returns-clause-files c = files_one
