pub mod Shares
pub mod Keyed
pub mod Drafts
pub mod Reading
pub mod Refusals
