pub mod NameDirectiveLemmas
