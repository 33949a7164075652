pub mod RunLemmas
pub mod OneStatus
pub mod SomeRun
