pub mod Kept
pub mod Checks
pub mod Fails
pub mod Refusal
pub mod Found
pub mod Findings
pub mod Headers
