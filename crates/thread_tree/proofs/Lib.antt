pub mod Halves
pub mod Fitting
