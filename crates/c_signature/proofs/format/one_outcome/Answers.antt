use Rattle.c_signature.proofs.OneOutcome.{lists_one, lists_valid, lists_independent, one_fault, some_outcome}
use Rattle.c_signature.proofs.format.one_outcome.Goals as goal

pub returns : goal.returns
returns c = record {
  list = lists_one;
  not_invalid = lists_valid;
  not_system_dependent = lists_independent;
  one_fault = one_fault;
  some = some_outcome;
}
