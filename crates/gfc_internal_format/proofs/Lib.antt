pub mod GfcOperandLemmas
pub mod GfcDirectiveLemmas
pub mod GfcNumberLemmas
pub mod GfcCallLemmas
pub mod GfcTextLemmas
