use Rattle.std.proofs.Common.{refl}
use Rattle.gbk_high_rows.specs.GbkHighRows.{gbk_high_d1}
use Rattle.gbk_high_rows.proofs.rows.gbk_high_d1.rows.Goals as goal

pub returns : goal.returns
unfolding gbk_high_d1
returns c = refl
