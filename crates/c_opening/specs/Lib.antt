pub mod Opening
pub mod Handing
