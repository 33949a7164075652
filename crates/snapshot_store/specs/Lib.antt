pub mod SlotBook
pub mod Holding
