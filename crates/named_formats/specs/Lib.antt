pub mod NameDirectives
pub mod NameFormat
