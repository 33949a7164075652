use Rattle.entry_search.proofs.Kit.{List, ℕ, Some, ap, sym, ◌∙◌, option_map, bytes_eq, key, key_bytes}
use Rattle.entry_search.proofs.asked.has_key.Goals as goal

pub returns-in-Some : goal.returns-in-Some
returns-in-Some c =
    let asked : List ℕ = key_bytes (Some c.in-Some.context.now) c.args.id.now in
    c.is_in_context.ensures
    ∙ ap (λ (k : List ℕ). bytes_eq k asked) (c.as_bytes-key.ensures.value ∙ c.key.ensures)
    ∙ ap (bytes_eq (key c.args.entry.now))
    (ap (λ (o : _). key_bytes (option_map (λ s. s.now) o) c.args.id.now) (sym c.in-Some.is))
