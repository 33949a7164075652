pub mod EucJpRows
pub mod EucJp8fRows
pub mod EucJpGrids
