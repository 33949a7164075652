use Rattle.catserve.proofs.Common.{◌≡◌, ◌++◌, into_iter_items, into_iter_len, answer_lines}
use Rattle.catserve.proofs.Turns.{HasTaken}
use Rattle.catserve.proofs.asking.write_answers.Given as goal

abbrev pub invariant-answers : goal.invariant-answers
invariant-answers l = record {
  taken : HasTaken (into_iter_items l.initial.answer-iterator) l.yielded (into_iter_items l.answer-iterator)
      (into_iter_len l.answer-iterator);
  written : l.output.items ≡ l.fn.output.items ++ answer_lines l.worker l.yielded;
}
