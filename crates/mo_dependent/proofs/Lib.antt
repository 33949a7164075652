pub mod Steps
mod Primes
mod Probing
pub mod Lengths
mod StaticStrings
mod Writing
mod Filling
