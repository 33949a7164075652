pub mod Making
pub mod NamedPlaces
