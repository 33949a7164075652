use Rattle.entry_search.proofs.Kit.{◌≡◌, List, ℕ, true, sym, ◌∙◌, option_map, bytes_eq, key, key_bytes}
use Rattle.std.proofs.Common.{Bor}
use Rattle.entry_search.proofs.Found.{found_by_slot}
use Rattle.entry_search.proofs.find.entry_at_slot.Goals as goal

pub returns-then-has_key : goal.returns-then-has_key
returns-then-has_key c =
    let entry = c.entry_in-entry in
    let asked : List ℕ = key_bytes (option_map {T = Bor (List ℕ)} {U = List ℕ} (λ s. s.now) c.args.context)
    c.args.id.now in
    let at = c.requires.names.only c.in_ok-at.field-0.now c.in_ok-at.ensures in
    let same : bytes_eq (key entry.result) asked ≡ true = sym c.has_key.ensures ∙ c.if-has_key.true in
    found_by_slot c.args.image.now at.0 entry.result asked entry.ensures.lawful (entry.ensures.entry at.0 at.1) same
