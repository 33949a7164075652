pub mod Big5Rows
pub mod Big5Grids
