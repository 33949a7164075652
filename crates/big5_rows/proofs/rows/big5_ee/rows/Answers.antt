use Rattle.std.proofs.Common.{refl}
use Rattle.big5_rows.specs.Big5Rows.{big5_ee}
use Rattle.big5_rows.proofs.rows.big5_ee.rows.Goals as goal

pub returns : goal.returns
unfolding big5_ee
returns c = refl
