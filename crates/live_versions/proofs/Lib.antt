pub mod Adding
pub mod Changes
pub mod Events
pub mod Steps
