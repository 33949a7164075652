use Rattle.live_set.proofs.Kit.{List, sym, subst, LoadValue, IsAt}
use Rattle.live_set.specs.Slots.{IsGapFor}
use Rattle.live_set.proofs.Slotting.{find_at, find_gap}
use Rattle.live_set.proofs.leaf.VecLoadRun.get.Goals as goal

pub returns-in-Ok : goal.returns-in-Ok
returns-in-Ok c =
    let domain = c.args.domain.now in
    let locale = c.args.locale.now in
    sym (find_at c.args.self.now.items domain locale c.in-Ok.at c.index.result.now c.requires
    (subst (λ (run : List LoadValue). IsAt run domain locale c.in-Ok.at) c.deref.ensures.value c.in-Ok.ensures.found)
    c.index.ensures)

pub returns-in-Err : goal.returns-in-Err
returns-in-Err c =
    let domain = c.args.domain.now in
    let locale = c.args.locale.now in
    sym (find_gap c.args.self.now.items domain locale c.in-Err.field-0
    (subst (λ (run : List LoadValue). IsGapFor run domain locale c.in-Err.field-0) c.deref.ensures.value
    c.in-Err.ensures.absent))
