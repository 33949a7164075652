use Rattle.msgfmt_tool.proofs.OneStatus.{file_one, status_one}
use Rattle.msgfmt_tool.proofs.SomeRun.{some_run}
use Rattle.msgfmt_tool.proofs.law.one_status.Goals as goal

pub returns-clause-one : goal.returns-clause-one
returns-clause-one c = status_one

pub returns-clause-file : goal.returns-clause-file
returns-clause-file c = file_one

pub returns-clause-some : goal.returns-clause-some
returns-clause-some c = some_run
