use Rattle.live_set.proofs.Kit.{Bor, ℕ, List, map, find, ap, ◌∙◌, has_key, map_at}
use Rattle.std.specs.Prelude.{option_map}
use Rattle.catalogue.specs.Entry.{key_bytes}
use Rattle.live_set.proofs.Listing.{find_first}
use Rattle.live_set.proofs.set.CatalogueSet.find_in_places_hinted.Goals as goal

-- the catalogue at the first place has the message
pub returns-in-Some : goal.returns-in-Some
returns-in-Some c =
    let held = c.args.self.now.held in
    let key : List ℕ = key_bytes (option_map {T = Bor (List ℕ)} {U = List ℕ} (λ s. s.now) c.args.context) c.args.id.now
    in
    let has = has_key key in
    let maps = map (map_at held) in
    let first = c.in_ok-first.first.now in
    let others = c.in_ok-first.others.now in (
      ap (λ places. find has (maps places)) c.in_ok-first.ensures.cases.0
          ∙ find_first has (map_at held first) c.in-Some.found.0.now (maps others) c.in-Some.ensures.0,
      c.in-Some.ensures.1,
    )
