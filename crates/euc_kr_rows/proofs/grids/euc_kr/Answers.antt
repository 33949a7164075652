use Rattle.charset_grid.proofs.Cells.{of_code}
use Rattle.euc_kr_rows.proofs.Scalars.{of_euc_kr}
use Rattle.euc_kr_rows.proofs.grids.euc_kr.Goals as goal

pub returns-clause-character : goal.returns-clause-character
returns-clause-character c = of_code _ _ _ _ _ c.cell.ensures c.grid_of_euc_kr.ensures (of_euc_kr c.args.first)
