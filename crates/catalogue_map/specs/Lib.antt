pub use Rattle.mo_image.specs.Entry
pub use Rattle.mo_image.specs.MoFile
pub use Rattle.mo_image.specs.Map
pub use Rattle.entry_search.specs.Search
pub mod Messages
pub mod Value
pub mod Sizes
pub mod Accepted
