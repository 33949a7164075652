pub mod Pieces
pub mod Conversions
pub mod Directives
pub mod Signature
pub mod Agreement
pub mod Readers
pub mod FormatScanning
pub mod Asked
