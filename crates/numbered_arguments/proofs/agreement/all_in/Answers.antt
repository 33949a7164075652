use Rattle.std.proofs.Common.{sym, ap, ◌∙◌, arith}
use Rattle.std.proofs.lemmas.Grind.{common_steps}
use Rattle.numbered_arguments.specs.declared.Kind.TheVariants.{Any}
use Rattle.numbered_arguments.specs.declared.Numbered.{Numbered}
use Rattle.std.specs.List.{list_all}
use Rattle.std.proofs.lemmas.List.{take_all}
use Rattle.std.proofs.lemmas.List.Folds.{list_all_at, list_all_more}
use Rattle.numbered_arguments.specs.NumberedIndex.{has_in}
use Rattle.numbered_arguments.proofs.agreement.all_in.Goals as goal

pub returns-then-not-has : goal.returns-then-not-has
returns-then-not-has c = sym (list_all_at (has_in c.args.others.now) c.args.ones.now c.ones.one-index _
    c.ones-test.true (sym c.if-not-has.ensures))

pub ones-preserved : goal.ones-preserved
ones-preserved c =
    let none : Numbered = record { number = 0; kind = Any } in
    let more = list_all_more (has_in c.args.others.now) c.args.ones.now c.ones.one-index none c.ones-test.true in
    grind (arith, common_steps, more, c.ones.invariant, c.if-not-has.ensures)

pub returns : goal.returns
returns c = sym (ap (list_all (has_in c.args.others.now))
    (sym (take_all c.ones.one-index c.args.ones.now c.ones-test.false)) ∙ c.ones.invariant)
