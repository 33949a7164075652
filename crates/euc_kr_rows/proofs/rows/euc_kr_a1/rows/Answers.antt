use Rattle.std.proofs.Common.{refl}
use Rattle.euc_kr_rows.specs.EucKrRows.{euc_kr_a1}
use Rattle.euc_kr_rows.proofs.rows.euc_kr_a1.rows.Goals as goal

pub returns : goal.returns
unfolding euc_kr_a1
returns c = refl
