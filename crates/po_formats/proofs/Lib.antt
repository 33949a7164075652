pub mod Checking
pub mod Gathering
pub mod HeaderLemmas
pub mod OneList
pub mod PlainLemmas
