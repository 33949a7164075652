use Rattle.live_set.proofs.Kit.{◌≡◌, ℕ, List, ◌++◌, flat_map, take, length, get_or, min, Option, find, None, Some}
use Rattle.live_set.proofs.Kit.{MatchOption, sym, ap, subst, ◌∙◌, arith, LoadValue, is_for, IsPlaceFor}
use Rattle.live_set.proofs.Kit.{Rises, loads_in}
use Rattle.live_set.proofs.Indexing.{placed_first, place_behind}
use Rattle.live_set.proofs.Running.{IsParted, about, below, above, within, rises_front, found_first, later_rises}
use Rattle.live_set.proofs.Running.{found_later}
use Rattle.live_set.proofs.runs.RunsRun.place.Goals as goal

-- in the first run
pub place-requires : goal.place-requires
place-requires g c = rises_front _ _ c.self.invariant.rises

pub returns-in-None : goal.returns-in-None
returns-in-None g c =
    let now = c.self.inside in
    let of = loads_in g.R.Run.loads in
    let first = g.R.Run.loads now.first in
    let domain = c.args.domain.now in
    let locale = c.args.locale.now in
    let parted = subst (λ runs. IsParted of domain locale runs None) c.deref.ensures.value c.in-None.ensures.parted in
    subst (λ (held : List LoadValue). MatchOption c.place.result (find (is_for domain locale) held ≡ None)
    (IsPlaceFor held domain locale)) c.self.view_is
    (placed_first domain locale first (flat_map of now.later.items) c.place.result
    (found_first of domain locale first now.later.items c.self.invariant.rises c.self.invariant.has parted)
    c.place.ensures)

-- in a later one
pub place-requires-in-Some : goal.place-requires-in-Some
place-requires-in-Some g c =
    let now = c.self.inside in
    let of = loads_in g.R.Run.loads in
    let first = g.R.Run.loads now.first in
    let domain = c.args.domain.now in
    let locale = c.args.locale.now in
    let at = c.in-Some.at in
    let parted = subst (λ runs. IsParted of domain locale runs (Some at)) c.deref.ensures.value
    c.in-Some.ensures.parted in
    let inside = within at _ now.later.items c.deref.ensures.value c.in-Some.ensures.bound in
    subst (λ r. Rises (g.R.Run.loads r)) (sym c.deref-in-Some.ensures)
    (subst (λ run. Rises (of run)) (sym c.index.ensures) (later_rises of domain locale first now.later.items
    c.self.invariant.rises c.self.invariant.has at inside parted c.index.result.now))

pub returns-in_err-inside-in-Some : goal.returns-in_err-inside-in-Some
returns-in_err-inside-in-Some g c =
    let now = c.self.inside in
    let of = loads_in g.R.Run.loads in
    let first = g.R.Run.loads now.first in
    let domain = c.args.domain.now in
    let locale = c.args.locale.now in
    let at = c.in-Some.at in
    let parted = subst (λ runs. IsParted of domain locale runs (Some at)) c.deref.ensures.value
    c.in-Some.ensures.parted in
    let inside = within at _ now.later.items c.deref.ensures.value c.in-Some.ensures.bound in
    let p = is_for domain locale in
    let P : Option ℕ → Type 0 = λ o. MatchOption o (find p c.args.self.now ≡ None)
    (IsPlaceFor c.args.self.now domain locale) in
    subst P (sym c.from_residual.ensures) (ap (find p) (sym c.self.view_is)
    ∙ found_later of domain locale first now.later.items c.self.invariant.rises c.self.invariant.has at inside parted
    c.index.result.now ∙ sym (ap (λ run. find p (of run)) c.index.ensures)
    ∙ sym (ap (λ r. find p (g.R.Run.loads r)) c.deref-in-Some.ensures) ∙ c.in_err-inside-in-Some.ensures)

pub returns-in_ok-inside-in-Some : goal.returns-in_ok-inside-in-Some
returns-in_ok-inside-in-Some g c =
    let now = c.self.inside in
    let of = loads_in g.R.Run.loads in
    let first = g.R.Run.loads now.first in
    let domain = c.args.domain.now in
    let locale = c.args.locale.now in
    let at = c.in-Some.at in
    let parted = subst (λ runs. IsParted of domain locale runs (Some at)) c.deref.ensures.value
    c.in-Some.ensures.parted in
    let inside = within at _ now.later.items c.deref.ensures.value c.in-Some.ensures.bound in
    let d = c.index.result.now in
    let lower = below of first now.later.items at in
    let upper = above of now.later.items at in
    let run = of (get_or now.later.items at d) in
    let whole = about of domain locale first now.later.items c.self.invariant.rises c.self.invariant.has at inside
    parted d in
    let is_run = ap g.R.Run.loads c.deref-in-Some.ensures ∙ ap of c.index.ensures in
    let here = subst (λ (r : List LoadValue). IsPlaceFor r domain locale c.in_ok-inside-in-Some.inside) is_run
    c.in_ok-inside-in-Some.ensures in
    let same = sym (ap (find (is_for domain locale)) whole) ∙ found_later of domain locale first now.later.items
    c.self.invariant.rises c.self.invariant.has at inside parted d in
    let before : c.count_in-before.result ≡ min (length (first ++ flat_map of (take at now.later.items)))
    18446744073709551615 = c.count_in-before.ensures
    ∙ ap (λ runs. min (length (first ++ flat_map of (take at runs))) 18446744073709551615)
    c.deref-in-Some-2.ensures.value in
    subst (λ (held : List LoadValue). IsPlaceFor held domain locale c.saturating_add.result)
    (sym whole ∙ c.self.view_is) (place_behind domain locale run lower upper c.in_ok-inside-in-Some.inside
    c.saturating_add.result same (omega (arith, c.saturating_add.ensures, before)) here)
