pub mod Joining
pub mod Looking
pub mod Refusals
pub mod BytesFaults
pub mod OneAnswer
