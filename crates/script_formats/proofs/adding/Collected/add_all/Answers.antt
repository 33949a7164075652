use Rattle.std.proofs.Common.{◌++◌}
use Rattle.numbered_arguments.specs.NumberedArguments.{list_of}
use Rattle.script_formats.proofs.AddingLemmas.{adds_both}
use Rattle.script_formats.proofs.adding.Collected.add_all.Goals as goal

pub returns : goal.returns
returns c =
    let d = c.args.directive in
    let before = c.args.self.now in
    let two = adds_both before c.add.new.self c.add-2.new.self (list_of d.index) (list_of d.separator)
    c.in_ok-add.ensures c.in_ok-add-2.ensures in
    let three = adds_both before c.add-2.new.self c.add-3.new.self (list_of d.index ++ list_of d.separator)
    (list_of d.vector) two c.in_ok-add-3.ensures in
    let four = adds_both before c.add-3.new.self c.add-4.new.self
    (list_of d.index ++ list_of d.separator ++ list_of d.vector) (list_of d.width) three c.in_ok-add-4.ensures in
    let five = adds_both before c.add-4.new.self c.add-5.new.self
    (list_of d.index ++ list_of d.separator ++ list_of d.vector ++ list_of d.width) (list_of d.precision) four
    c.in_ok-add-5.ensures in
    adds_both before c.add-5.new.self c.add-6.new.self
    (list_of d.index ++ list_of d.separator ++ list_of d.vector ++ list_of d.width ++ list_of d.precision)
    (list_of d.argument) five c.in_ok-add-6.ensures
