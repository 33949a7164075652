pub mod Message
pub mod Charset
