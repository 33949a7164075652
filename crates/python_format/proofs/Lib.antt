pub mod PartLemmas
pub mod DirectiveLemmas
