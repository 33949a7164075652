pub mod MoTables
pub mod Rows
pub mod FileParts
pub mod Claims
pub mod Blocks
