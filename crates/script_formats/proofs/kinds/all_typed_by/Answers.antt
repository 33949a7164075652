use Rattle.std.proofs.Common.{arith}
use Rattle.std.proofs.lemmas.Grind.{common_steps}
use Rattle.std.proofs.lemmas.List.{map_more}
use Rattle.numbered_arguments.specs.declared.Kind.TheVariants.{Any}
use Rattle.numbered_arguments.specs.declared.Numbered.{Numbered}
use Rattle.numbered_arguments.specs.NumberedIndex.{has_in}
use Rattle.script_formats.specs.ScriptKinds.{typed_by}
use Rattle.script_formats.proofs.kinds.all_typed_by.Goals as goal

pub asked-preserved : goal.asked-preserved
asked-preserved c =
    let none : Numbered = record { number = 0; kind = Any } in
    let more = map_more (typed_by (has_in c.args.known.now)) c.args.asked.now c.asked.argument-index none
    c.asked-test.true in
    grind (arith, common_steps, more, c.asked.invariant, c.typed_by.ensures, c.in_ok-push.ensures.items)
