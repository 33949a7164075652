use Rattle.charset_grid.proofs.Cells.{of_code}
use Rattle.gbk_high_rows.proofs.Scalars.{of_gbk_high}
use Rattle.gbk_high_rows.proofs.grids.gbk_high.Goals as goal

pub returns-clause-character : goal.returns-clause-character
returns-clause-character c = of_code _ _ _ _ _ c.cell.ensures c.grid_of_gbk_high.ensures (of_gbk_high c.args.first)
