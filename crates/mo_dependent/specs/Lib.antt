pub mod Splits
pub mod Segments
pub mod Hashing
pub mod Layout
pub mod FilePieces
