pub mod NumberedKinds
pub mod NumberedArguments
pub mod NumberedText
pub mod NumberingStates
pub mod NumberedIndex
