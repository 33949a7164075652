pub mod Often
pub mod EntryFaults
pub mod Adding
pub mod PlainFaults
pub mod TextFaults
pub mod HeaderViews
