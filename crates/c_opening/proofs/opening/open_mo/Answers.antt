use Rattle.std.specs.Prelude.{nat_lt}
use Rattle.c_opening.proofs.Keeping.{kept_mo}
use Rattle.c_opening.proofs.opening.open_mo.Goals as goal

pub returns-in-Ok : goal.returns-in-Ok
returns-in-Ok c = kept_mo c.args.bytes.items (nat_lt 0 c.args.strict) c.in-Ok.catalogue c.kept.result
    c.in-Ok.ensures.ok c.kept.ensures
