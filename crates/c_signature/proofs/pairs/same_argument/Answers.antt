use Rattle.std.proofs.Common.{◌≡◌, refl, ◌∷◌, [], rules}
use Rattle.c_signature.proofs.pairs.same_argument.Goals as goal

pub returns-in-One-One : goal.returns-in-One-One
returns-in-One-One c = λ e.
    let same : c.in-One-One.kind ≡ c.in-One-One.other = search rules in (
      c.in-One-One.kind ∷ [],
      rw c.in-One-One.is-0 refl,
      rw (c.in-One-One.is-1, same) refl,
    )
