pub mod LibrepDirectiveLemmas
pub mod LibrepCountingLemmas
pub mod LibrepTextLemmas
