use Rattle.charset_grid.proofs.Cells.{of_code}
use Rattle.gb2312_rows.proofs.Scalars.{of_gb2312}
use Rattle.gb2312_rows.proofs.grids.gb2312.Goals as goal

pub returns-clause-character : goal.returns-clause-character
returns-clause-character c = of_code _ _ _ _ _ c.cell.ensures c.grid_of_gb2312.ensures (of_gb2312 c.args.first)
