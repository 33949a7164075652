pub mod QuoteLemmas
pub mod LeadLemmas
pub mod WeightLemmas
pub mod DecimalLemmas
pub mod ReadingLemmas
