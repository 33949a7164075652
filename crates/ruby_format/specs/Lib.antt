pub mod RubyPieces
pub mod RubyDirectives
pub mod RubyFormat
pub mod RubyScanning
