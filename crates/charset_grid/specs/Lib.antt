pub mod Grid
pub mod GridOf
