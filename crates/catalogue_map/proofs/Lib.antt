pub mod Kit
pub mod InStrings
pub mod Accepting
