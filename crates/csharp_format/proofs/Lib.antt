pub mod CSharpItemLemmas
pub mod CSharpTextLemmas
pub mod CSharpAgreementLemmas
