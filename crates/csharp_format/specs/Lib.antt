pub mod CSharpItems
pub mod CSharpFormat
pub mod CSharpAgreement
