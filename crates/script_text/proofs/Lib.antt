pub mod Cutting
pub mod Numerals
pub mod Escapes
pub mod Taking
pub mod Parsing
