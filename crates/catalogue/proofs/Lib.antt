pub mod Kit
pub mod Listing
pub mod Fitting
pub mod Counting
pub mod HeaderFound
pub mod Compiling
pub mod OneMeaning
pub mod SomeMeaning
