mod LineParts
mod Offsets
pub mod Failing
