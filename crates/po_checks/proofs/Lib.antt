pub mod FirstLines
pub mod Refusals
pub mod Checking
pub mod SameTexts
pub mod Faults
pub mod Values
pub mod OwnHeader
