pub mod Machine
pub mod Descriptors
pub mod Expanding
pub mod MessageStrings
pub mod Dependents
pub mod Flat
pub mod Keeping
pub mod Writing
