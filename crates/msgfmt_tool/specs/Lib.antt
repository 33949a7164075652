pub mod Runs
pub mod RunSteps
pub mod Laws
