pub mod PrintfDirectiveLemmas
pub mod PrintfTextLemmas
