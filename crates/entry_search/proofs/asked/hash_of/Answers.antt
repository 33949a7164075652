use Rattle.entry_search.proofs.Kit.{List, ℕ, ap, sym, subst, option_map, key_bytes, hash_alone, hash_within}
use Rattle.entry_search.specs.Index.{FindsBy}
use Rattle.entry_search.proofs.Found.{finds_alone, finds_within}
use Rattle.entry_search.proofs.asked.hash_of.Goals as goal

pub returns-in-Some : goal.returns-in-Some
returns-in-Some c =
    let context = c.in-Some.context.now in
    let id = c.args.id.now in
    rw c.hash_within.ensures (subst (λ (k : List ℕ). FindsBy k (hash_within context id))
    (ap (λ (o : _). key_bytes (option_map (λ s. s.now) o) id) (sym c.in-Some.is))
    (finds_within context id))

pub returns-in-None : goal.returns-in-None
returns-in-None c =
    let id = c.args.id.now in
    rw c.hash_alone.ensures (subst (λ (k : List ℕ). FindsBy k (hash_alone id))
    (ap (λ (o : _). key_bytes (option_map (λ s. s.now) o) id) (sym c.in-None.is))
    (finds_alone id))
