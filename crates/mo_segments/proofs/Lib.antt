pub mod Parts
pub mod Keeping
pub mod Rows
pub mod Reading
