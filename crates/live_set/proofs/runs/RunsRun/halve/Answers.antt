use Rattle.std.proofs.Common.{◌/◌}
use Rattle.live_set.proofs.Kit.{◌<◌, ◌++◌, List, length, flat_map, min, ap, subst, ◌∙◌, arith, LoadValue, loads_in}
use Rattle.live_set.specs.LoadRuns.{IsCut}
use Rattle.live_set.proofs.Running.{halved}
use Rattle.live_set.proofs.runs.RunsRun.halve.Goals as goal

-- the upper half
pub invariant_of-result : goal.invariant_of-result
invariant_of-result g c =
    let now = c.self.inside in
    let of = loads_in g.R.Run.loads in
    let first = g.R.Run.loads now.first in
    let n = c.len-middle.result / 2 in
    let inside : n < length now.later.items = omega
    (arith, c.if-middle-eq0.false, c.len-middle.ensures, now.later.ok) in
    let some : 0 < n = omega (arith, c.if-middle-eq0.false) in
    let parts = halved of first now.later.items now.count c.self.invariant n some inside in
    record {
      rises = rw (c.empty-first.ensures, c.in_ok-later.ensures.tail) parts.rises_upper;
      has = rw c.in_ok-later.ensures.tail parts.has_upper;
      counted = c.count_in-count.ensures ∙ ap (λ runs. min
          (length (g.R.Run.loads c.empty-first.result ++ flat_map of runs)) 18446744073709551615)
          c.deref-2.ensures.value;
    }

-- the lower half
pub invariant_of-self-2 : goal.invariant_of-self-2
invariant_of-self-2 g c =
    let now = c.self.inside in
    let of = loads_in g.R.Run.loads in
    let first = g.R.Run.loads now.first in
    let n = c.len-middle.result / 2 in
    let inside : n < length now.later.items = omega
    (arith, c.if-middle-eq0.false, c.len-middle.ensures, now.later.ok) in
    let some : 0 < n = omega (arith, c.if-middle-eq0.false) in
    let parts = halved of first now.later.items now.count c.self.invariant n some inside in
    record {
      rises = rw c.in_ok-later.ensures.items parts.rises_lower;
      has = rw c.in_ok-later.ensures.items parts.has_lower;
      counted = c.count_in-self-inside.ensures ∙ ap (λ runs. min (length (first ++ flat_map of runs))
          18446744073709551615) c.deref.ensures.value;
    }

pub returns : goal.returns
returns g c =
    let now = c.self.inside in
    let of = loads_in g.R.Run.loads in
    let first = g.R.Run.loads now.first in
    let n = c.len-middle.result / 2 in
    let inside : n < length now.later.items = omega
    (arith, c.if-middle-eq0.false, c.len-middle.ensures, now.later.ok) in
    let some : 0 < n = omega (arith, c.if-middle-eq0.false) in
    let parts = halved of first now.later.items now.count c.self.invariant n some inside in
    subst (λ (old : List LoadValue). IsCut old (first ++ flat_map of c.split_off.new.self.items)
    (g.R.Run.loads c.empty-first.result ++ flat_map of c.in_ok-later.later.items)) c.self.view_is
    (rw (c.in_ok-later.ensures.items, c.empty-first.ensures, c.in_ok-later.ensures.tail) parts.cut)
