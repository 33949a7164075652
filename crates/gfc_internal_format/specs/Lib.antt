pub mod GfcOperands
pub mod GfcDirectives
pub mod GfcNumbers
pub mod GfcArguments
pub mod GfcFormat
