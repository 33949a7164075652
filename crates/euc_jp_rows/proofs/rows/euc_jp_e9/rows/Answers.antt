use Rattle.std.proofs.Common.{refl}
use Rattle.euc_jp_rows.specs.EucJpRows.{euc_jp_e9}
use Rattle.euc_jp_rows.proofs.rows.euc_jp_e9.rows.Goals as goal

pub returns : goal.returns
unfolding euc_jp_e9
returns c = refl
