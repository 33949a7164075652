use Rattle.std.specs.declared.alloc.Global.{Global}
use Rattle.std.specs.declared.sync.Arc.{Arc}
use Rattle.live_set.proofs.Kit.{List, ◌++◌, flat_map, length, min, set, None, Some, ap, sym, subst, ◌∙◌, arith}
use Rattle.live_set.proofs.Kit.{LoadValue, Rises, loads_in}
use Rattle.live_set.proofs.Running.{IsPut, parted_for, within, rises_front, later_rises, put_first, put_later, IsCount}
use Rattle.live_set.proofs.Running.{grown, counted_first, counted_later}
use Rattle.live_set.proofs.runs.RunsRun.put.Goals as goal

-- into the first run
pub put-put-requires : goal.put-put-requires
put-put-requires g c = rises_front _ _ c.self.invariant.rises

pub overflow_sub-count : goal.overflow_sub-count
overflow_sub-count g c =
    let more = grown c.args.load.now (g.R.Run.loads c.self.inside.first) (g.R.Run.loads c.put-put.new.self)
    c.put-put.result (rises_front _ _ c.self.invariant.rises) c.put-put.ensures in
    omega (arith, c.count-before.ensures, c.count.ensures, more)

pub invariant_of-self : goal.invariant_of-self
invariant_of-self g c =
    let now = c.self.inside in
    let of = loads_in g.R.Run.loads in
    let first = g.R.Run.loads now.first in
    let load = c.args.load.now in
    let parted = parted_for of c.domain.result c.locale.result _ None load now.later.items c.domain.ensures
    c.locale.ensures c.deref.ensures.value c.in-None.ensures.parted in
    let put = put_first of load first now.later.items c.self.invariant.rises c.self.invariant.has parted
    (g.R.Run.loads c.put-put.new.self) c.put-put.result c.put-put.ensures in
    let more = grown c.args.load.now (g.R.Run.loads c.self.inside.first) (g.R.Run.loads c.put-put.new.self)
    c.put-put.result (rises_front _ _ c.self.invariant.rises) c.put-put.ensures in
    record {
      rises = put.rises;
      has = c.self.invariant.has;
      counted = c.saturating_add-self-inside.ensures ∙ counted_first of first now.later.items now.count
          c.count-before.result c.count.result c.self.invariant.counted (g.R.Run.loads c.put-put.new.self)
          c.count-before.ensures c.count.ensures more;
    }

pub returns-in-None : goal.returns-in-None
returns-in-None g c =
    let now = c.self.inside in
    let of = loads_in g.R.Run.loads in
    let first = g.R.Run.loads now.first in
    let load = c.args.load.now in
    let parted = parted_for of c.domain.result c.locale.result _ None load now.later.items c.domain.ensures
    c.locale.ensures c.deref.ensures.value c.in-None.ensures.parted in
    let put = put_first of load first now.later.items c.self.invariant.rises c.self.invariant.has parted
    (g.R.Run.loads c.put-put.new.self) c.put-put.result c.put-put.ensures in
    subst (λ (old : List LoadValue). IsPut c.put-put.result load old
    (g.R.Run.loads c.put-put.new.self ++ flat_map of now.later.items)) (c.self.view_is ∙ c.make_room.ensures) put.is

-- into a later one
pub put_shared-put-requires : goal.put_shared-put-requires
put_shared-put-requires g c =
    let now = c.self.inside in
    let of = loads_in g.R.Run.loads in
    let first = g.R.Run.loads now.first in
    let load = c.args.load.now in
    let at = c.in-Some.at in
    let run = c.index_mut-run.result.now in
    let parted = parted_for of c.domain.result c.locale.result _ (Some at) load now.later.items c.domain.ensures
    c.locale.ensures c.deref.ensures.value c.in-Some.ensures.parted in
    let inside = within at _ now.later.items c.deref.ensures.value c.in-Some.ensures.bound in
    let rises = subst (λ (r : Arc g.row.R.Denot Global). Rises (of r)) (sym c.index_mut-run.ensures.value)
    (later_rises of load.domain load.locale first now.later.items c.self.invariant.rises c.self.invariant.has at inside
    parted run) in
    rises

pub overflow_sub-count-in-Some : goal.overflow_sub-count-in-Some
overflow_sub-count-in-Some g c =
    let now = c.self.inside in
    let of = loads_in g.R.Run.loads in
    let first = g.R.Run.loads now.first in
    let load = c.args.load.now in
    let at = c.in-Some.at in
    let run = c.index_mut-run.result.now in
    let parted = parted_for of c.domain.result c.locale.result _ (Some at) load now.later.items c.domain.ensures
    c.locale.ensures c.deref.ensures.value c.in-Some.ensures.parted in
    let inside = within at _ now.later.items c.deref.ensures.value c.in-Some.ensures.bound in
    let rises = subst (λ (r : Arc g.row.R.Denot Global). Rises (of r)) (sym c.index_mut-run.ensures.value)
    (later_rises of load.domain load.locale first now.later.items c.self.invariant.rises c.self.invariant.has at inside
    parted run) in
    let new = c.put_shared-put.new.run in
    let more = grown load (of run) (of new) c.put_shared-put.result rises c.put_shared-put.ensures in
    let before : IsCount c.count-before-in-Some.result (of run) = c.count-before-in-Some.ensures
    ∙ ap (λ r. min (length (g.R.Run.loads r)) 18446744073709551615) c.deref-in-Some.ensures in
    let after : IsCount c.count-in-Some.result (of new) = c.count-in-Some.ensures
    ∙ ap (λ r. min (length (g.R.Run.loads r)) 18446744073709551615) c.deref-in-Some-2.ensures in
    omega (arith, before, after, more)

pub invariant_of-self-in-Some : goal.invariant_of-self-in-Some
invariant_of-self-in-Some g c =
    let now = c.self.inside in
    let of = loads_in g.R.Run.loads in
    let first = g.R.Run.loads now.first in
    let load = c.args.load.now in
    let at = c.in-Some.at in
    let run = c.index_mut-run.result.now in
    let parted = parted_for of c.domain.result c.locale.result _ (Some at) load now.later.items c.domain.ensures
    c.locale.ensures c.deref.ensures.value c.in-Some.ensures.parted in
    let inside = within at _ now.later.items c.deref.ensures.value c.in-Some.ensures.bound in
    let rises = subst (λ (r : Arc g.row.R.Denot Global). Rises (of r)) (sym c.index_mut-run.ensures.value)
    (later_rises of load.domain load.locale first now.later.items c.self.invariant.rises c.self.invariant.has at inside
    parted run) in
    let new = c.put_shared-put.new.run in
    let more = grown load (of run) (of new) c.put_shared-put.result rises c.put_shared-put.ensures in
    let before : IsCount c.count-before-in-Some.result (of run) = c.count-before-in-Some.ensures
    ∙ ap (λ r. min (length (g.R.Run.loads r)) 18446744073709551615) c.deref-in-Some.ensures in
    let after : IsCount c.count-in-Some.result (of new) = c.count-in-Some.ensures
    ∙ ap (λ r. min (length (g.R.Run.loads r)) 18446744073709551615) c.deref-in-Some-2.ensures in
    let put = put_later of load first now.later.items c.self.invariant.rises c.self.invariant.has at run
    c.put_shared-put.new.run c.put_shared-put.result inside parted c.index_mut-run.ensures.value
    c.put_shared-put.ensures in
    record {
      rises = put.rises;
      has = put.has;
      counted = c.saturating_add-self-inside-in-Some.ensures ∙ counted_later of first now.later.items now.count
          c.count-before-in-Some.result c.count-in-Some.result c.self.invariant.counted at run new inside
          c.index_mut-run.ensures.value before after more;
    }

pub returns-in-Some : goal.returns-in-Some
returns-in-Some g c =
    let now = c.self.inside in
    let of = loads_in g.R.Run.loads in
    let first = g.R.Run.loads now.first in
    let load = c.args.load.now in
    let at = c.in-Some.at in
    let run = c.index_mut-run.result.now in
    let parted = parted_for of c.domain.result c.locale.result _ (Some at) load now.later.items c.domain.ensures
    c.locale.ensures c.deref.ensures.value c.in-Some.ensures.parted in
    let inside = within at _ now.later.items c.deref.ensures.value c.in-Some.ensures.bound in
    let put = put_later of load first now.later.items c.self.invariant.rises c.self.invariant.has at run
    c.put_shared-put.new.run c.put_shared-put.result inside parted c.index_mut-run.ensures.value
    c.put_shared-put.ensures in
    subst (λ (old : List LoadValue). IsPut c.put_shared-put.result load old
    (first ++ flat_map of (set now.later.items at c.put_shared-put.new.run))) (c.self.view_is ∙ c.make_room.ensures)
    put.is
