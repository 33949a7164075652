use Rattle.std.proofs.Common.{refl}
use Rattle.euc_kr_rows.specs.EucKrRows.{euc_kr_ea}
use Rattle.euc_kr_rows.proofs.rows.euc_kr_ea.rows.Goals as goal

pub returns : goal.returns
unfolding euc_kr_ea
returns c = refl
