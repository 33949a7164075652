pub mod GccEntityLemmas
pub mod GccDirectiveLemmas
pub mod GccTextLemmas
