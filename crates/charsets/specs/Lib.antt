pub mod Tables
pub mod Table
pub mod Pairs
pub mod CharsetNames
pub mod Every
pub mod Naming
pub mod Decoding
