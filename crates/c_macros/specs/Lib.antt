pub mod Macros
pub mod MacroDirectives
pub mod MacroFormat
pub mod MacroAgreement
pub mod MacroSplits
pub mod MacroScanning
