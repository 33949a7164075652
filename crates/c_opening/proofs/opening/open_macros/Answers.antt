use Rattle.c_opening.proofs.Keeping.{kept_file}
use Rattle.c_opening.proofs.opening.open_macros.Goals as goal

pub returns-in-Ok : goal.returns-in-Ok
returns-in-Ok c =
    kept_file c.args.bytes.now c.args.options c.in-Ok.made c.kept.result c.in-Ok.ensures.ok c.kept.ensures
