pub mod Kit
pub mod Found
pub mod Indexing
pub mod KeyOrder
pub mod Searching
pub mod Slots
