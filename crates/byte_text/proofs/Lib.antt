pub mod Cutting
pub mod Offsets
pub mod Fronts
