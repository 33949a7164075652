use Rattle.catalogue_map.proofs.Kit.{◌≡◌, ◌+◌, length, sym, ap, ◌∙◌, arith, pool, message_entry, capped_number}
use Rattle.catalogue_map.proofs.Kit.{length-with_nul}
use Rattle.std.proofs.Common.{max}
use Rattle.mo_image.specs.Entry.{original}
use Rattle.mo_image.specs.MoFile.{entry_size}
use Rattle.catalogue_map.proofs.Accepting.{translation_size, sums_capped}
use Rattle.catalogue_map.proofs.sizes.message_len.Goals as goal

pub returns : goal.returns
returns c =
    let e = message_entry c.args.message.now in
    let translation = rw c.deref.ensures.value at c.translation_len.ensures in
    let same : entry_size e ≡ 16 + (c.key_len.result + c.plural_len.result + 1) + max (length (pool e.forms)) 1 = omega
    (arith, length-with_nul (original e), translation_size e, c.key_len.ensures, c.plural_len.ensures) in
    sums_capped _ _ _ _ _ _ _ _ c.saturating_add.ensures c.saturating_add-original.ensures
    (rw translation at c.saturating_add-2.ensures) c.saturating_add-3.ensures ∙ ap capped_number (sym same)
