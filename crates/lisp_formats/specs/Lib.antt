pub mod LispParameters
pub mod LispConversions
pub mod LispDirectives
pub mod LispFormat
pub mod LispAgreement
