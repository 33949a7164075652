use Rattle.std.proofs.Common.{◌≡◌, ◌++◌, ◌∷◌, [], length, length-append, sym, ap, ◌∙◌, arith, rules}
use Rattle.live_set.specs.Loads.{LoadValue}
use Rattle.live_loads.specs.Batches.{version_of}
use Rattle.live_loads.specs.Seen.{SeenValue}
use Rattle.snapshot_store.proofs.Growing.{version_added}
use Rattle.snapshot_store.proofs.publisher.Publisher.go_on.Goals as goal

pub invariant_of-self : goal.invariant_of-self
invariant_of-self c =
    let inv = c.self.invariant in
    let old = c.args.self.now.seen.batches in
    let batch = c.args.self.now.pending in
    let value : c.advance.new.self ≡ record { book = c.args.self.now.seen.book; batches = old ++ batch ∷ [] }
    = c.advance.ensures.current ∙ c.requires.snapshot in
    let book : c.advance.new.self.book ≡ c.self.inside.snapshots.book
    = ap (λ (s : SeenValue). s.book) value ∙ sym (ap (λ p. p.seen.book) c.self.view_is) in
    let same : c.in-Ok.known ≡ c.advance.new.self = search rules in (
      inv.0 ∙ sym book,
      inv.1 ∙ sym book,
      inv.2,
      inv.3 ∙ sym book,
      same,
      ap (λ t. t.book) c.replace-turn.ensures.after ∙ (c.requires.next.0 ∙ sym (ap (λ (s : SeenValue). s.book) value)),
      omega (
        arith,
        ap (λ t. t.shown) c.replace-turn.ensures.after,
        c.requires.next.1,
        ap (λ (s : SeenValue). length s.batches) value,
        length-append old (batch ∷ []),
      ),
      omega (
        arith,
        ap (λ (s : SeenValue). version_of s.batches) value,
        version_added old batch,
        ap (length {A = LoadValue}) c.advance.ensures.batch,
        inv.7,
        ap (λ p. version_of p.seen.batches) c.self.view_is,
        ap (λ p. length p.pending) c.self.view_is,
      ),
    )
