pub mod Cut
pub mod Lanes
pub mod Chain
pub mod Decimal
pub mod Front
pub mod Characters
