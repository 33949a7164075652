pub mod GbkHighRows
pub mod GbkHighGrids
