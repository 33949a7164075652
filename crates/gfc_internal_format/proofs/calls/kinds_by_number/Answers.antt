use Rattle.std.proofs.Common.{None, Some, arith}
use Rattle.std.specs.Prelude.{if◌then◌else◌, ◌==◌}
use Rattle.std.proofs.lemmas.Grind.{common_steps}
use Rattle.std.proofs.lemmas.List.Sums.{fold_more}
use Rattle.numbered_arguments.specs.declared.Numbered.{Numbered}
use Rattle.numbered_arguments.specs.declared.Kind.TheVariants.{Any}
use Rattle.gfc_internal_format.proofs.calls.kinds_by_number.Goals as goal

pub asked-preserved : goal.asked-preserved
asked-preserved c = λ number.
    let none : Numbered = record { number = 0; kind = Any } in
    let more = fold_more (λ kind a. if a.number == number then Some a.kind else kind) None c.args.asked.now
    c.asked.argument-index none c.asked-test.true in
    grind (arith, common_steps, more, c.asked.invariant number)
