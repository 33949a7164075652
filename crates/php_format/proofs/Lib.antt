pub mod PhpPartLemmas
pub mod PhpDirectiveLemmas
