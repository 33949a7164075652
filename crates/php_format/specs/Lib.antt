pub mod PhpPieces
pub mod PhpDirectives
pub mod PhpFormat
