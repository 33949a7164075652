use Rattle.std.proofs.Common.{◌≤◌, sym, ◌∙◌, arith}
use Rattle.std.proofs.lemmas.Grind.{common_steps}
use Rattle.numbered_arguments.specs.NumberedIndex.{has_in}
use Rattle.numbered_formats.specs.NumberGaps.{left_out}
use Rattle.numbered_formats.proofs.IndexLemmas.{at_least_two}
use Rattle.numbered_formats.proofs.gaps.leaves_out_one.Goals as goal

pub returns-then-left_out-eq1 : goal.returns-then-left_out-eq1
returns-then-left_out-eq1 c =
    let many : 2 ≤ left_out (has_in c.args.index.now) c.args.last = at_least_two (has_in c.args.index.now)
    c.numbers.number c.args.last c.numbers-test.true (sym c.if-not-has.ensures)
    (sym c.numbers.invariant.0 ∙ c.if-left_out-eq1.true) in
    grind (arith, common_steps, many)
