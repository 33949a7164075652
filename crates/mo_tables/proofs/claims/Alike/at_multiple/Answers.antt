use Rattle.std.proofs.Common.{arith, refl}
use Rattle.mo_tables.proofs.KeyOrder.{at_each_multiple}
use Rattle.mo_tables.proofs.claims.Alike.at_multiple.Goals as goal

pub returns : goal.returns
returns c bytes is = (
  at_each_multiple bytes c.args.self is c.args.distance c.in_ok-to.to (omega (arith, c.if-self-eq0.false))
      c.if-distance-self-ne0.false (omega (arith, c.in_ok-checked_sub.ensures))
      (omega (arith, c.in_ok-checked_sub.ensures, c.in_ok-to.ensures)) (omega (arith, c.if-to-self.false)),
  refl,
)
