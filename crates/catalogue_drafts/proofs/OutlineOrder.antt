-- The order of the outlines.
use Rattle.std.specs.Cmp.{IsTotalOrder, IsStrictWeakOrder}
use Rattle.std.proofs.lemmas.Cmp.{nat_list_cmp_total, nat_cmp_total, on_total, then_total}
use Rattle.std.proofs.lemmas.List.Sorted.{ranks_by}
use Rattle.catalogue_drafts.specs.Drafts.{Outline, outline, outline_cmp, comes_before}

pub row_total : IsTotalOrder outline_cmp
row_total = then_total (on_total (λ (r : Outline). r.key) nat_list_cmp_total)
    (on_total (λ (r : Outline). r.number) nat_cmp_total)

pub draft_order : IsStrictWeakOrder comes_before
draft_order = ranks_by row_total outline
