use Rattle.std.proofs.Common.{rules}
use Rattle.c_sets.proofs.sets.with_one_in.Goals as goal

pub returns-then-not-are_names : goal.returns-then-not-are_names
returns-then-not-are_names c = search rules
