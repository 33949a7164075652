use Rattle.mo_image.proofs.Joining.{joined_step}
use Rattle.catalogue_drafts.proofs.collected.add_forms.Goals as goal

pub forms-preserved : goal.forms-preserved
forms-preserved c = joined_step c.args.entry.now.forms c.forms.k _ _ _ _ c.form.ensures c.forms.invariant
    c.in_ok-push_form.ensures
