pub mod Arguments
pub mod Bytes
pub mod Text
pub mod ArgumentViews
pub mod Indexing
