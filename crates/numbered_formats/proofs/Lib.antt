pub mod NumberDirectiveLemmas
pub mod IndexLemmas
