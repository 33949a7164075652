pub mod Lists
pub mod TextLemmas
pub mod AgreementLemmas
pub mod IndexLemmas
