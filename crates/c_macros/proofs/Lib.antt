pub mod MacroLemmas
pub mod MacroDirectiveLemmas
pub mod ListLemmas
pub mod ReaderLemmas
pub mod SplitLemmas
pub mod FormatLemmas
pub mod ReadingLemmas
