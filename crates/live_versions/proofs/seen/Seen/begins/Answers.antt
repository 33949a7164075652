use Rattle.std.proofs.Common.{ap, subst, List}
use mathlib.Core.List.{IsPrefix}
use Rattle.live_set.specs.Loads.{LoadValue}
use Rattle.live_loads.proofs.Joining.{compared}
use Rattle.live_versions.proofs.seen.Seen.begins.Goals as goal

pub returns : goal.returns
returns c =
    let h = c.learn.ensures in
    let a = c.self.inside.beginning.log in
    let b = c.other.inside.beginning.log in
    let z = c.learn.new.self.log in
    let first : IsPrefix a z = subst (λ (s : List (List LoadValue)). IsPrefix s z)
    (ap (λ s. s.log) c.again-both.ensures) h.2 in
    let k = compared a b z c.self.inside.version c.other.inside.version first h.3 c.self.invariant.1 c.other.invariant.1
    c.self.invariant.0 c.other.invariant.0 in
    rw (← c.self.view_is, ← c.other.view_is) k
