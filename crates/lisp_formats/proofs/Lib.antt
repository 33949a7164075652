pub mod LispParameterLemmas
pub mod LispVariableLemmas
pub mod LispDirectiveLemmas
pub mod LispTextLemmas
pub mod LispAgreementLemmas
