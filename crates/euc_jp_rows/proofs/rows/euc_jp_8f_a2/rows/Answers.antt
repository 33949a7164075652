use Rattle.std.proofs.Common.{refl}
use Rattle.euc_jp_rows.specs.EucJp8fRows.{euc_jp_8f_a2}
use Rattle.euc_jp_rows.proofs.rows.euc_jp_8f_a2.rows.Goals as goal

pub returns : goal.returns
unfolding euc_jp_8f_a2
returns c = refl
