use Rattle.std.proofs.Common.{◌≡◌, [], ◌∷◌, All, vec_len}
use Rattle.left_right.specs.Sides.{view}
use Rattle.live_versions.proofs.store.new_readers.Given as goal

abbrev pub invariant-loop : goal.invariant-loop
invariant-loop l = (vec_len l.lookups ≡ l.counter) × All (λ v. v ≡ l.seen) l.lookups.items
    × ((view l.writer.desk.place).books ≡ l.seen.book ∷ []) × (l.writer.desk.shown ≡ l.fn.writer.desk.shown)
    × (l.writer.log ≡ l.fn.writer.log) × (l.writer.behind ≡ l.fn.writer.behind)
