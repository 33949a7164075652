use Rattle.std.proofs.Common.{refl}
use Rattle.big5_rows.specs.Big5Rows.{big5_a1}
use Rattle.big5_rows.proofs.rows.big5_a1.rows.Goals as goal

pub returns : goal.returns
unfolding big5_a1
returns c = refl
