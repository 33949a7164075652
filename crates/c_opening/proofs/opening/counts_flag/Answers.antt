use Rattle.c_opening.proofs.Keeping.{counted}
use Rattle.c_opening.proofs.opening.counts_flag.Goals as goal

pub returns : goal.returns
returns c = counted c.args.is_strict c.args.catalogue.now c.has_digits_flag.result c.if-is_strict.false
    c.has_digits_flag.ensures
