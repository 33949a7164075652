use Rattle.charset_grid.proofs.Cells.{of_code}
use Rattle.gbk_low_rows.proofs.Scalars.{of_gbk_low}
use Rattle.gbk_low_rows.proofs.grids.gbk_low.Goals as goal

pub returns-clause-character : goal.returns-clause-character
returns-clause-character c = of_code _ _ _ _ _ c.cell.ensures c.grid_of_gbk_low.ensures (of_gbk_low c.args.first)
