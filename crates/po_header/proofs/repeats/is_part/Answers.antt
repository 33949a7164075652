use Rattle.std.proofs.lemmas.Bool.{eqb-true}
use Rattle.po_header.proofs.Repeating.{part_of}
use Rattle.po_header.proofs.repeats.is_part.Goals as goal

pub returns-then-modulus-gt0 : goal.returns-then-modulus-gt0
returns-then-modulus-gt0 c = λ zero. part_of c.args.modulus c.if-modulus-gt0.true (eqb-true _ _ zero)
