use Rattle.mo_file.proofs.OneMap.{unique_map, refused_map, failing_map}
use Rattle.mo_file.proofs.SomeMap.{some_map, passing_map}
use Rattle.mo_file.proofs.laws.one_map.Goals as goal

pub returns-clause-unique : goal.returns-clause-unique
returns-clause-unique c = unique_map

pub returns-clause-refused : goal.returns-clause-refused
returns-clause-refused c = refused_map

pub returns-clause-some : goal.returns-clause-some
returns-clause-some c = some_map

pub returns-clause-any : goal.returns-clause-any
returns-clause-any c = failing_map

pub returns-clause-passed : goal.returns-clause-passed
returns-clause-passed c = passing_map
