use Rattle.catalogue_map.proofs.Kit.{sym, ap, ◌∙◌, sum_by, capped_number}
use Rattle.std.proofs.Common.{take_all}
use Rattle.catalogue_map.proofs.Accepting.{form_size, pool_size}
use Rattle.catalogue_map.proofs.sizes.forms_len.Goals as goal

pub returns : goal.returns
returns c = c.forms.invariant ∙ ap capped_number (ap (sum_by form_size) (take_all _ _ c.forms-test.false)
    ∙ sym (pool_size c.args.forms.now))
