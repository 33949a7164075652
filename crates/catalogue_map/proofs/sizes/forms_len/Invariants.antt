use Rattle.catalogue_map.proofs.Kit.{◌≡◌, take, sum_by, capped_number}
use Rattle.catalogue_map.proofs.Accepting.{form_size}
use Rattle.catalogue_map.proofs.sizes.forms_len.Given as goal

abbrev pub invariant-forms : goal.invariant-forms
invariant-forms l = l.len ≡ capped_number (sum_by form_size (take l.form-index l.forms))
