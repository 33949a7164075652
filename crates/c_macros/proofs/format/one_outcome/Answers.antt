use Rattle.c_macros.proofs.FormatLemmas.{lists_one, plain_lists}
use Rattle.c_macros.proofs.format.one_outcome.Goals as goal

pub returns : goal.returns
returns c = record { list = lists_one; plain = plain_lists }
