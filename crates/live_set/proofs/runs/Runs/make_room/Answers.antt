use Rattle.live_set.proofs.Kit.{◌∙◌, loads_in}
use Rattle.live_set.proofs.Running.{within, halved_later, kept_later}
use Rattle.live_set.proofs.runs.Runs.make_room.Goals as goal

-- a later run is halved
pub invariant_of-self-in-Continue-branch-6 : goal.invariant_of-self-in-Continue-branch-6
invariant_of-self-in-Continue-branch-6 g c =
    let now = c.self.inside in
    let of = loads_in g.R.Run.loads in
    let first = g.R.Run.loads now.first in
    let inside = within c.in-Some.at _ now.later.items c.deref.ensures.value c.in-Some.ensures.bound in
    let halved = halved_later of first now.later.items now.count c.self.invariant c.in-Some.at c.index_mut.result.now
    c.halve_shared.new.run c.in_ok-upper-in-Some.upper c.reserve-then-is_full-2.new.self.items
    c.insert-then-is_full-2.new.self.items inside c.in_ok-reserve-in-Some.ensures.items c.index_mut.ensures.value
    c.in_ok-upper-in-Some.ensures c.in_ok-insert-in-Some.ensures.items in
    halved.inside

pub returns-in_ok-insert-in-Some : goal.returns-in_ok-insert-in-Some
returns-in_ok-insert-in-Some g c =
    let now = c.self.inside in
    let of = loads_in g.R.Run.loads in
    let first = g.R.Run.loads now.first in
    let inside = within c.in-Some.at _ now.later.items c.deref.ensures.value c.in-Some.ensures.bound in
    let halved = halved_later of first now.later.items now.count c.self.invariant c.in-Some.at c.index_mut.result.now
    c.halve_shared.new.run c.in_ok-upper-in-Some.upper c.reserve-then-is_full-2.new.self.items
    c.insert-then-is_full-2.new.self.items inside c.in_ok-reserve-in-Some.ensures.items c.index_mut.ensures.value
    c.in_ok-upper-in-Some.ensures c.in_ok-insert-in-Some.ensures.items in
    halved.same ∙ c.self.view_is

-- a later run can't be halved
pub invariant_of-self-in_err-upper-in-Some : goal.invariant_of-self-in_err-upper-in-Some
invariant_of-self-in_err-upper-in-Some g c =
    let now = c.self.inside in
    let of = loads_in g.R.Run.loads in
    let first = g.R.Run.loads now.first in
    let inside = within c.in-Some.at _ now.later.items c.deref.ensures.value c.in-Some.ensures.bound in
    let kept = kept_later of first now.later.items now.count c.self.invariant c.in-Some.at c.index_mut.result.now
    c.halve_shared.new.run c.reserve-then-is_full-2.new.self.items inside c.in_ok-reserve-in-Some.ensures.items
    c.index_mut.ensures.value c.in_err-upper-in-Some.ensures in
    kept.inside

pub returns-in_err-upper-in-Some : goal.returns-in_err-upper-in-Some
returns-in_err-upper-in-Some g c =
    let now = c.self.inside in
    let of = loads_in g.R.Run.loads in
    let first = g.R.Run.loads now.first in
    let inside = within c.in-Some.at _ now.later.items c.deref.ensures.value c.in-Some.ensures.bound in
    let kept = kept_later of first now.later.items now.count c.self.invariant c.in-Some.at c.index_mut.result.now
    c.halve_shared.new.run c.reserve-then-is_full-2.new.self.items inside c.in_ok-reserve-in-Some.ensures.items
    c.index_mut.ensures.value c.in_err-upper-in-Some.ensures in
    kept.same ∙ c.self.view_is
