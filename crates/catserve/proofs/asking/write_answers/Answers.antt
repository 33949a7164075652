use Rattle.catserve.proofs.Common.{◌∙◌, ◌++◌, ℕ, List, ap, arith, answer_lines, answer_line, flat_map_more}
use Rattle.std.proofs.Common.{string_bytes}
use Rattle.desks.specs.declared.desk.Answer.{Answer}
use Rattle.catserve.proofs.Turns.{takes_one, takes_all}
use Rattle.catserve.proofs.asking.write_answers.Goals as goal

pub answers-preserved : goal.answers-preserved
answers-preserved c =
    let at = c.answers in
    let x = c.in-Some.answer in
    let line = answer_line c.args.worker x.version (string_bytes x.text) in
    record {
      taken = takes_one x at.invariant.taken c.in-Some.ensures.steps.0 (omega (arith, c.in-Some.ensures.steps.1));
      written = c.in_ok-write_answer.ensures
          ∙ ap (λ (text : List ℕ). at.output.items ++ answer_line c.args.worker x.version text) c.as_str.ensures.value
          ∙ ap (λ (out : List ℕ). out ++ line) at.invariant.written
          ∙ flat_map_more (λ (a : Answer). answer_line c.args.worker a.version (string_bytes a.text))
          c.args.output.now.items at.yielded x;
    }

pub returns : goal.returns
returns c =
    let at = c.answers in
    let all = takes_all at.invariant.taken c.in-None.ensures.steps.0
    ∙ c.into_iter-answer-iterator.ensures.into_iter_gives.0 in
    at.invariant.written ∙ ap (λ answers. c.args.output.now.items ++ answer_lines c.args.worker answers) all
