use Rattle.std.proofs.Common.{◌≡◌, List, Equal, ap, insert, slice_set, sym, subst, ◌∙◌}
use Rattle.live_set.specs.Loads.{LoadValue}
use Rattle.live_set.specs.Slots.{IsAt, IsGapFor, probe, order_of}
use Rattle.live_set.proofs.Order.{with_map}
use Rattle.live_set.proofs.Slotting.{put_at, put_gap}
use Rattle.live_set.proofs.leaf.put_in.Goals as goal

-- replaces the load for its domain and locale
pub returns-in_ok-catalogue-in-Ok : goal.returns-in_ok-catalogue-in-Ok
returns-in_ok-catalogue-in-Ok c =
    let held = c.args.run.now.items in
    let load = c.args.load.now in
    let old = c.index_mut.result.now in
    let at = subst (λ (held : List LoadValue). IsAt held c.domain.result c.locale.result c.in-Ok.at)
    c.deref.ensures.value c.in-Ok.ensures.found in
    let tied : order_of old (probe load.domain load.locale) ≡ Equal = rw
    (c.index_mut.ensures.value, ← c.domain.ensures, ← c.locale.ensures) (at.tied old) in
    let map = c.in_ok-catalogue-in-Ok.ensures ∙ ap (λ (l : LoadValue). l.map) c.load.view_is in
    let shared : c.replace_catalogue.new.self ≡ record { domain = old.domain; locale = old.locale; map = load.map } =
    c.replace_catalogue.ensures ∙ (λ i. record { domain = old.domain; locale = old.locale; map = map i }) in
    let is = shared ∙ with_map old load tied in
    ap (slice_set held c.in-Ok.at) is
    ∙ sym (put_at load held _ _ _ c.requires c.domain.ensures c.locale.ensures at)

-- fills the gap for it
pub returns-in_ok-insert-in-Err : goal.returns-in_ok-insert-in-Err
returns-in_ok-insert-in-Err c =
    let gap = subst (λ (held : List LoadValue). IsGapFor held c.domain.result c.locale.result c.in-Err.at)
    c.deref.ensures.value c.in-Err.ensures.absent in
    c.in_ok-insert-in-Err.ensures.items
    ∙ (ap (insert c.args.run.now.items c.in-Err.at) c.in_ok-try_clone-in-Err.ensures
    ∙ sym (put_gap c.args.load.now c.args.run.now.items _ _ _ c.domain.ensures c.locale.ensures gap))
