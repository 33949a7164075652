use Rattle.std.proofs.Common.{rules}
use Rattle.catalogue_map.proofs.map.rule_of_header.Goals as goal

pub returns-in-Some : goal.returns-in-Some
returns-in-Some c = search rules
