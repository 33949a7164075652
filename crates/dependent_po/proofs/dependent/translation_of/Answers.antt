use Rattle.std.proofs.Common.{refl}
use Rattle.dependent_po.proofs.SplitLemmas.{one_more_form}
use Rattle.dependent_po.proofs.dependent.translation_of.Goals as goal

pub forms-preserved : goal.forms-preserved
forms-preserved c =
    one_more_form c.args.looks c.args.entry.now.forms c.forms.k c.form.result.now _ c.forms.translation _
    c.form.ensures refl c.forms.invariant c.in_ok-add.ensures
