use Rattle.std.proofs.Common.{refl}
use Rattle.gbk_low_rows.specs.GbkLowRows.{gbk_low_a8}
use Rattle.gbk_low_rows.proofs.rows.gbk_low_a8.rows.Goals as goal

pub returns : goal.returns
unfolding gbk_low_a8
returns c = refl
