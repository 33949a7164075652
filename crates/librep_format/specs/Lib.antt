pub mod LibrepDirectives
pub mod LibrepCounting
pub mod LibrepFormat
