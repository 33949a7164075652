pub mod Runs
pub mod PartLemmas
pub mod DirectiveLemmas
pub mod PlainDirectives
pub mod RequestLemmas
pub mod FormatLemmas
pub mod PairLemmas
pub mod OneOutcome
