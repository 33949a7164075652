use Rattle.std.proofs.Common.{arith, refl}
use Rattle.mo_tables.proofs.KeyOrder.{behind_alike}
use Rattle.mo_tables.proofs.claims.Alike.shifted.Goals as goal

pub returns : goal.returns
returns c bytes is period =
    let found = c.in_ok-repeated.ensures bytes period in (
      behind_alike bytes c.args.self c.in_ok-repeated.repeated is found.0 c.args.distance c.max-from.result
          c.min-to.result (omega (arith, found.1, c.in_ok-more.ensures))
          (omega (arith, found.1, c.max-from.ensures, c.saturating_sub.ensures))
          (omega (arith, c.if-to-from.false)) (omega (arith, c.min-to.ensures))
          (omega (arith, found.1, c.min-to.ensures, c.in_ok-checked_sub.ensures)),
      refl,
    )
