use Rattle.live_set.proofs.Kit.{find, None, Some, sym, ap, subst, ◌∙◌, is_for, Rises, loads_in}
use Rattle.live_set.proofs.Running.{IsParted, within, rises_front, found_first, later_rises, found_later}
use Rattle.live_set.proofs.runs.RunsRun.get.Goals as goal

-- in the first run
pub get-requires : goal.get-requires
get-requires g c = rises_front _ _ c.self.invariant.rises

pub returns-in-None : goal.returns-in-None
returns-in-None g c =
    let now = c.self.inside in
    let of = loads_in g.R.Run.loads in
    let first = g.R.Run.loads now.first in
    let domain = c.args.domain.now in
    let locale = c.args.locale.now in
    let parted = subst (λ runs. IsParted of domain locale runs None) c.deref.ensures.value c.in-None.ensures.parted in
    c.get.ensures ∙ sym (found_first of domain locale first now.later.items c.self.invariant.rises
    c.self.invariant.has parted) ∙ ap (find (is_for domain locale)) c.self.view_is

-- in a later one
pub get-requires-in-Some : goal.get-requires-in-Some
get-requires-in-Some g c =
    let now = c.self.inside in
    let of = loads_in g.R.Run.loads in
    let first = g.R.Run.loads now.first in
    let domain = c.args.domain.now in
    let locale = c.args.locale.now in
    let at = c.in-Some.at in
    let parted = subst (λ runs. IsParted of domain locale runs (Some at)) c.deref.ensures.value
    c.in-Some.ensures.parted in
    let inside = within at _ now.later.items c.deref.ensures.value c.in-Some.ensures.bound in
    subst (λ r. Rises (g.R.Run.loads r)) (sym c.deref-in-Some.ensures)
    (subst (λ run. Rises (of run)) (sym c.index.ensures) (later_rises of domain locale first now.later.items
    c.self.invariant.rises c.self.invariant.has at inside parted c.index.result.now))

pub returns-in-Some : goal.returns-in-Some
returns-in-Some g c =
    let now = c.self.inside in
    let of = loads_in g.R.Run.loads in
    let first = g.R.Run.loads now.first in
    let domain = c.args.domain.now in
    let locale = c.args.locale.now in
    let at = c.in-Some.at in
    let parted = subst (λ runs. IsParted of domain locale runs (Some at)) c.deref.ensures.value
    c.in-Some.ensures.parted in
    let inside = within at _ now.later.items c.deref.ensures.value c.in-Some.ensures.bound in
    let p = is_for domain locale in
    c.get-in-Some.ensures ∙ ap (λ r. find p (g.R.Run.loads r)) c.deref-in-Some.ensures
    ∙ ap (λ run. find p (of run)) c.index.ensures
    ∙ sym (found_later of domain locale first now.later.items c.self.invariant.rises c.self.invariant.has at inside
    parted c.index.result.now) ∙ ap (find p) c.self.view_is
