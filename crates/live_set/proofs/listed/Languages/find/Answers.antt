use Rattle.live_set.proofs.Kit.{◌≡◌, List, Option, Some, None, MatchOption, find, map, ap, subst, ◌∙◌, Entry, has_key}
use Rattle.live_set.proofs.Kit.{map_at}
use Rattle.catalogue.specs.Map.{entry_at}
use Rattle.live_set.specs.SetPlaces.{listed_places}
use Rattle.live_set.proofs.Placing.{same_search}
use Rattle.live_set.proofs.listed.Languages.find.Goals as goal

-- the places are few enough, so a search there finds what one of the list's maps finds
pub returns : goal.returns
returns c =
    let l = c.self.inside in
    let key = c.args.key.now in
    let has = has_key key in
    let same : find has (map (map_at l.set.now.held) (listed_places l.places)) ≡ find has c.args.self.now =
    same_search l.set.now.held l.domain.now (listed_places l.places) l.languages.now key
    (c.self.invariant.loads c.if-count-gt-MOST_PLACES.false) ∙ ap (find has) c.self.view_is in
    let P : Option (List Entry) → Type 0 = λ o. MatchOption c.find_in_places.result (o ≡ None)
    (λ f. (o ≡ Some f.0.now) × (entry_at f.0.now key ≡ Some f.1)) in
    subst P same c.find_in_places.ensures
