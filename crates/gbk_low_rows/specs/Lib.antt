pub mod GbkLowRows
pub mod GbkLowGrids
