pub mod FaultLemmas
pub mod OneList
mod Failing
