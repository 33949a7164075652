pub mod Search
pub mod Index
pub mod EntryIndex
