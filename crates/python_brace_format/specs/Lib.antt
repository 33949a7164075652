pub mod BraceFields
pub mod BraceSpecifiers
pub mod BraceDirectives
pub mod BraceAgreement
pub mod BraceFormat
