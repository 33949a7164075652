pub mod PrintfConversions
pub mod PrintfDirectives
pub mod PrintfPlaces
pub mod PrintfFormat
