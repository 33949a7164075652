use Rattle.live_set.proofs.Kit.{◌≡◌, ℕ, List, [], ◌∷◌, ◌++◌, Some, map, find, flat_map, sym, ap, subst, ◌∙◌, has_key}
use Rattle.live_set.proofs.Kit.{language_behind, locales_of, named_locales, map_in}
use Rattle.live_set.proofs.Listing.{members_of_name, find_first}
use Rattle.live_set.proofs.set.CatalogueSet.find_by_key.Goals as goal

-- the whole list is a locale's name, and so its one member
pub returns-in-Some : goal.returns-in-Some
returns-in-Some c =
    let held = c.args.self.now.held in
    let list = c.args.languages.now in
    let maps = map_in held c.args.domain.now in
    let has = has_key c.args.key.now in
    let found = subst (λ (d : List ℕ). find has (map_in held d list ∷ []) ≡ Some c.in-Some.found.0.now)
    c.new-domain.ensures c.in-Some.ensures.found.0 in
    let one : named_locales list ≡ locales_of list ++ [] = ap (flat_map locales_of)
    (members_of_name list c.in-Some.ensures.name (sym c.if-is_translated.ensures)) in (
      ap (λ locales. find has (map maps locales)) one
          ∙ find_first has (maps list) c.in-Some.found.0.now (map maps (language_behind list ++ [])) found,
      c.in-Some.ensures.found.1,
    )
