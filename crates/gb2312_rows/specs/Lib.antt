pub mod Gb2312Rows
pub mod Gb2312Grids
