pub mod FieldLemmas
pub mod EndLemmas
pub mod DirectiveLemmas
pub mod ReaderLemmas
pub mod Consistency
