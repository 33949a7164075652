use Rattle.charset_grid.proofs.Cells.{of_code}
use Rattle.big5_rows.proofs.Scalars.{of_big5}
use Rattle.big5_rows.proofs.grids.big5.Goals as goal

pub returns-clause-character : goal.returns-clause-character
returns-clause-character c = of_code _ _ _ _ _ c.cell.ensures c.grid_of_big5.ensures (of_big5 c.args.first)
