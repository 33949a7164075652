use Rattle.live_set.proofs.Slotting.{rises_none}
use Rattle.live_set.proofs.Kit.{refl}
use Rattle.live_set.proofs.runs.RunsRun.empty.Goals as goal

pub invariant_of-result : goal.invariant_of-result
invariant_of-result g c = rw (c.empty.ensures, c.new.ensures.items)
    (record { rises = rises_none; has = tt; counted = refl })
