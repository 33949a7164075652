use Rattle.std.proofs.Common.{refl}
use Rattle.gb2312_rows.specs.Gb2312Rows.{gb2312_ec}
use Rattle.gb2312_rows.proofs.rows.gb2312_ec.rows.Goals as goal

pub returns : goal.returns
unfolding gb2312_ec
returns c = refl
