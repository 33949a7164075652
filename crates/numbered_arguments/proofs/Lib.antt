pub mod NumberLemmas
pub mod NumberedLemmas
pub mod KindLemmas
pub mod NumberedTextLemmas
