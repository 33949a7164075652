use Rattle.numbered_arguments.specs.NumberedArguments.{list_of}
use Rattle.gcc_internal_format.proofs.GccTextLemmas.{adds_both}
use Rattle.gcc_internal_format.proofs.collecting.Collected.add_all.Goals as goal

pub returns : goal.returns
returns c =
    let d = c.args.directive in
    adds_both c.args.self.now c.add.new.self c.add-2.new.self (list_of d.precision) (list_of d.argument)
    c.in_ok-add.ensures c.in_ok-add-2.ensures
