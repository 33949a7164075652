use Rattle.std.proofs.Common.{refl}
use Rattle.gbk_high_rows.specs.GbkHighRows.{gbk_high_f7}
use Rattle.gbk_high_rows.proofs.rows.gbk_high_f7.rows.Goals as goal

pub returns : goal.returns
unfolding gbk_high_f7
returns c = refl
