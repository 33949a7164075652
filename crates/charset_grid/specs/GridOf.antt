-- The cells that a grid of the code has.
use Rattle.std.specs.Prelude.{map}
use Rattle.charset_grid.specs.Grid.{Cells}
use Rattle.charset_grid.specs.declared.grid.Grid.{Grid}

abbrev pub grid_of : Grid → Cells
grid_of grid = record {
  first_row = grid.first_row;
  first_column = grid.first_column;
  rows = map (λ row. row.now) grid.rows.now;
}
