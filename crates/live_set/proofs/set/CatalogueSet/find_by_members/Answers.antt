use Rattle.live_set.proofs.Kit.{◌≡◌, List, [], ◌++◌, Option, None, Some, MatchOption, map, find, rules, flat_map, sym}
use Rattle.live_set.proofs.Kit.{ap, subst, ◌∙◌, append-nil, Entry, has_key, members, language_behind, locales_of}
use Rattle.live_set.proofs.Kit.{named_locales, map_in}
use Rattle.catalogue.specs.Map.{entry_at}
use Rattle.live_set.proofs.Listing.{only_member, find_next}
use Rattle.live_set.proofs.set.CatalogueSet.find_by_members.Goals as goal

-- the list is one member that doesn't have the message, so only its language is left
pub returns-then-not-has_colon : goal.returns-then-not-has_colon
returns-then-not-has_colon c =
    let list = c.args.languages.now in
    let member = c.in_ok-member.member.now in
    let maps = map_in c.args.self.now.held c.args.domain.now in
    let key = c.args.key.now in
    let has = has_key key in
    let only = only_member list member (members c.in_ok-member.field-0-1.now) (sym c.if-not-has_colon.ensures)
    c.in_ok-member.ensures.cut in
    let one : named_locales list ≡ locales_of list ++ [] = ap (flat_map locales_of) only.1 in
    let language = language_behind list in
    let same : find has (map maps (named_locales list)) ≡ find has (map maps (language_behind member)) =
    ap (λ l. find has (map maps l)) one
    ∙ find_next has (maps list) (map maps (language ++ [])) (c.requires only.2)
    ∙ ap (λ l. find has (map maps l)) (append-nil language)
    ∙ ap (λ m. find has (map maps (language_behind m))) (sym only.0) in
    let P : Option (List Entry) → Type 0 = λ o. MatchOption c.find_by_language.result (o ≡ None)
    (λ f. (o ≡ Some f.0.now) × (entry_at f.0.now key ≡ Some f.1)) in
    subst P (sym same) c.find_by_language.ensures

pub members-preserved : goal.members-preserved
members-preserved c = search rules
