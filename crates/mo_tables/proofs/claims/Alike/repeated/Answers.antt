use Rattle.std.proofs.Common.{arith}
use Rattle.mo_tables.proofs.KeyOrder.{between_alike}
use Rattle.mo_tables.proofs.claims.Alike.repeated.Goals as goal

pub returns : goal.returns
returns c bytes is near =
    between_alike bytes c.args.self c.args.nearer is near c.in_ok-distance.distance c.max-from.result c.min-to.result
    (omega (arith, c.in_ok-distance.ensures)) (omega (arith, c.max-from.ensures, c.saturating_sub.ensures))
    (omega (arith, c.if-to-from.false)) (omega (arith, c.min-to.ensures))
    (omega (arith, c.min-to.ensures, c.in_ok-checked_sub.ensures))
