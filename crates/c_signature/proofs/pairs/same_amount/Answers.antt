use Rattle.std.proofs.Common.{refl, ◌∷◌, []}
use Rattle.c_signature.specs.declared.Size.TheVariants.{Plain}
use Rattle.c_signature.specs.declared.ArgKind.TheVariants.{Signed}
use Rattle.c_signature.proofs.PairLemmas.{no_value}
use Rattle.c_signature.proofs.pairs.same_amount.Goals as goal

pub returns-then-is_none : goal.returns-then-is_none
returns-then-is_none c = λ e. (
  Signed Plain ∷ [],
  rw (
    c.in-Asked-Asked.is-0,
    no_value c.in-Asked-Asked.number c.is_none.result c.is_none.ensures c.if-is_none.true,
  ) refl,
  rw (
    c.in-Asked-Asked.is-1,
    no_value c.in-Asked-Asked.other c.is_none-then-is_none.result c.is_none-then-is_none.ensures
        e,
  ) refl,
)
