pub mod Ordering
pub mod Events
pub mod Adding
pub mod Growing
