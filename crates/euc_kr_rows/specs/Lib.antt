pub mod EucKrRows
pub mod EucKrGrids
