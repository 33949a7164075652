pub mod ReadLemmas
pub mod Logging
pub mod WriteLemmas
pub mod Ends
pub mod Arriving
pub mod LineSeeking
pub mod LineCounting
pub mod Waitings
