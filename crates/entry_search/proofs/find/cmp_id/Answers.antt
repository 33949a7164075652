use Rattle.entry_search.proofs.Kit.{sym, ◌∙◌, false≢true}
use Rattle.mo_image.proofs.Originals.{cmp_by_original}
use Rattle.entry_search.proofs.find.cmp_id.Goals as goal

pub returns : goal.returns
returns c = rw c.as_bytes.ensures.value at c.cmp-order.ensures
    ∙ cmp_by_original c.args.original.now c.args.id.now c.requires
    (λ h. false≢true (sym c.if-has_nul_at.false ∙ c.has_nul_at.ensures.1 (rw c.as_bytes-2.ensures.value h)))
