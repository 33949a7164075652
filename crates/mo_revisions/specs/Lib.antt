pub mod Revisions
pub mod AnyReading
pub mod Refusing
