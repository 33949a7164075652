pub mod HandleAgreement
pub mod Calls
pub mod HandleActs
pub mod OneHistory
pub mod Closings
pub mod Example
