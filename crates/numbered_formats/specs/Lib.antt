pub mod NumberDirectives
pub mod NumberGaps
pub mod NumberFormat
pub mod NumberAgreement
