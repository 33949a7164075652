use Rattle.std.proofs.Common.{refl}
use Rattle.gb2312_rows.specs.Gb2312Rows.{gb2312_a1}
use Rattle.gb2312_rows.proofs.rows.gb2312_a1.rows.Goals as goal

pub returns : goal.returns
unfolding gb2312_a1
returns c = refl
