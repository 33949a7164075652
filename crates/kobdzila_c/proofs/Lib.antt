pub mod Export
pub mod Kit
pub mod Steps
pub mod Taken
pub mod Walks
