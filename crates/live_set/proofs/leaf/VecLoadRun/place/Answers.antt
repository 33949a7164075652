use Rattle.live_set.proofs.Kit.{List, subst, LoadValue, IsAt}
use Rattle.live_set.specs.Slots.{IsGapFor}
use Rattle.live_set.proofs.Indexing.{place_own}
use Rattle.live_set.proofs.Slotting.{find_gap}
use Rattle.live_set.proofs.leaf.VecLoadRun.place.Goals as goal

pub returns-in-Ok : goal.returns-in-Ok
returns-in-Ok c =
    let domain = c.args.domain.now in
    let locale = c.args.locale.now in
    place_own domain locale c.args.self.now.items c.in-Ok.at c.requires
    (subst (λ (run : List LoadValue). IsAt run domain locale c.in-Ok.at) c.deref.ensures.value c.in-Ok.ensures.found)

pub returns-in-Err : goal.returns-in-Err
returns-in-Err c =
    let domain = c.args.domain.now in
    let locale = c.args.locale.now in
    find_gap c.args.self.now.items domain locale c.in-Err.field-0
    (subst (λ (run : List LoadValue). IsGapFor run domain locale c.in-Err.field-0) c.deref.ensures.value
    c.in-Err.ensures.absent)
