use Rattle.charset_grid.proofs.Cells.{of_code}
use Rattle.euc_jp_rows.proofs.Scalars.{of_euc_jp}
use Rattle.euc_jp_rows.proofs.grids.euc_jp.Goals as goal

pub returns-clause-character : goal.returns-clause-character
returns-clause-character c = of_code _ _ _ _ _ c.cell.ensures c.grid_of_euc_jp.ensures (of_euc_jp c.args.first)
