pub mod GccEntities
pub mod GccDirectives
pub mod GccCollecting
pub mod GccFormat
