pub use Rattle.mo_tables.specs.MoTables
pub mod Tables
pub mod MoReading
pub mod Pairs
pub mod Behind
pub mod Owned
