use Rattle.std.proofs.Common.{[], length, refl, arith}
use Rattle.std.proofs.lemmas.Option.{slice_get_read}
use Rattle.mo_image.proofs.Joining.{joined_step}
use Rattle.catalogue_map.proofs.InStrings.{form_at}
use Rattle.catalogue_map.proofs.sorted.translation_of.Goals as goal

pub forms-preserved : goal.forms-preserved
forms-preserved c =
    let at = slice_get_read c.args.forms.now (length c.args.forms.now) c.forms.k c.index-forms-k.result refl
    (omega (arith, c.forms-test.true)) c.index-forms-k.is in
    joined_step _ c.forms.k _ [] _ _ (form_at c.args.forms.now c.forms.k c.index-forms-k.result c.as_str.result.now at
    c.as_str.ensures.value) c.forms.invariant c.in_ok-push_form.ensures
