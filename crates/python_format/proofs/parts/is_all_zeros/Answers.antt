use Rattle.std.proofs.Common.{rules}
use Rattle.std.specs.Prelude.{◌==◌}
use Rattle.std.proofs.lemmas.Iterator.{YieldsList-from_slice}
use Rattle.std.proofs.lemmas.Iterator.Search.{all_from_yields_List}
use Rattle.python_format.proofs.parts.is_all_zeros.Goals as goal

pub returns-then-not-is_empty : goal.returns-then-not-is_empty
returns-then-not-is_empty c = rw (← c.if-not-is_empty.ensures) (all_from_yields_List (λ digit. digit == 48) _ _ _
    c.all.ensures.ran (YieldsList-from_slice c.args.digits.now cc) (λ x b q k. search rules))
