pub mod Batches
pub mod Seen
pub mod Store
pub mod LoadAnswers
pub mod Loading
